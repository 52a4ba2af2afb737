use Rattle.std.proofs.Common.{refl}
use Rattle.document_imports.specs.Imports.{row_values}
use Rattle.program_types.proofs.SearchLemmas.{sources_of, allowed_sources, type_found_in, none_found_in}
use Rattle.program_types.proofs.named.type_named.Goals as goal

pub returns-in-Ok-Some : goal.returns-in-Ok-Some
returns-in-Ok-Some c =
    type_found_in c.args.program.now c.args.here.now (row_values c.args.rows.now) c.args.qualifier.now c.args.name.now c.type_found.result c.in-Ok-Some.found c.in-Ok-Some.field-0 c.in-Ok-Some.field-0-is
    (c.in-Ok-Some.ensures.told (sources_of c.args.program.now) (c.in-Ok-Some.ensures.real.allowed _ refl (sources_of c.args.program.now) _ (allowed_sources c.args.program.now)))
    c.type_found.ensures

pub returns-in-Ok-None : goal.returns-in-Ok-None
returns-in-Ok-None c =
    none_found_in c.args.program.now c.args.here.now (row_values c.args.rows.now) c.args.qualifier.now c.args.name.now c.in-Ok-None.field-0 c.in-Ok-None.field-0-is
    (c.in-Ok-None.ensures.told (sources_of c.args.program.now) (c.in-Ok-None.ensures.real.allowed _ refl (sources_of c.args.program.now) _ (allowed_sources c.args.program.now)))
