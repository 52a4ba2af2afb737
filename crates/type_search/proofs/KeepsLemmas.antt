-- What two calls keep, one after the other, both keep.
use Rattle.std.proofs.Common.{◌∙◌, sym, Option}
use Rattle.qml_outside.specs.Folder.{Folder}
use Rattle.program_names.specs.Reading.{Sources}
use Rattle.type_search.specs.Causes.{Keeps}

pub keeps_on : {before between now : Sources → Type 0} {are_of : Option Folder → Sources → Type 0} {old middle new : Option Folder}
    → Keeps before between are_of old middle → Keeps between now are_of middle new → Keeps before now are_of old new
keeps_on first then_ = record {
  told = then_.told ∙ first.told;
  allowed = λ folder e sources of before. then_.allowed folder (e ∙ sym first.told) sources of (first.allowed folder e sources of before);
}
