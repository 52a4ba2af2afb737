use Rattle.alias_faults.proofs.FaultLemmas.{bad_as_written}
use Rattle.alias_faults.proofs.laws.bad_aliases_as_written.Goals as goal

pub returns : goal.returns
returns c p roots names ids aliases known tells knows d unit t rows kept says told there =
    bad_as_written p roots names ids aliases known tells knows d t unit rows kept says told there
