use Rattle.std.proofs.Common.{◌∙◌, ap, refl, map, ℕ, List, []}
use Rattle.js_locals.specs.Laid.{laid, name_of}
use Rattle.unit_code.specs.Code.{table_of}
use Rattle.unit_code.proofs.CodeLemmas.{names_at, no_names}
use Rattle.unit_code.proofs.code.UnitCodeCode.parameters.Goals as goal

pub returns-in-Some : goal.returns-in-Some
returns-in-Some c =
    ap (λ (ps : List ℕ). map (name_of (laid (table_of c.args.self.now.units.now c.args.function))) ps) c.as_slice.ensures.value
    ∙ names_at c.args.self.now.units.now c.args.function c.in-Some.ensures.0 c.in-Some.ensures.1 c.in-Some.places.now.text c.in-Some.places.now.parameters.items c.in-Some.places.now.statements c.in-Some.ensures.2 c.in-Some.ensures.3

pub returns-in-None : goal.returns-in-None
returns-in-None c = no_names c.args.self.now.units.now c.args.function [] c.in-None.ensures refl
