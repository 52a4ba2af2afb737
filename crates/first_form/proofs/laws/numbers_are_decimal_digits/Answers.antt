use Rattle.first_form.proofs.NumberLemmas.{number_found, number_only}
use Rattle.first_form.proofs.laws.numbers_are_decimal_digits.Goals as goal

pub returns-clause-found : goal.returns-clause-found
returns-clause-found c = number_found

pub returns-clause-only : goal.returns-clause-only
returns-clause-only c = number_only
