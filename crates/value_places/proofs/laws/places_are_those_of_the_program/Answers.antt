use Rattle.value_places.proofs.PlaceLemmas.{object_told, value_told}
use Rattle.value_places.proofs.laws.places_are_those_of_the_program.Goals as goal

pub returns-clause-objects : goal.returns-clause-objects
returns-clause-objects c p d file t objects rows all same o = object_told p d file t objects rows all same o

pub returns-clause-values : goal.returns-clause-values
returns-clause-values c p d file t objects rows all same first at = value_told p d file t objects rows all same first at
