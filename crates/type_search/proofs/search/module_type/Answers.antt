use Rattle.std.proofs.Common.{◌∙◌, ap, sym, subst}
use Rattle.std.specs.Option.{option_map}
use Rattle.program_names.specs.Types.{built_in}
use Rattle.file_paths.specs.Ascii.{SpellsAscii}
use Rattle.type_search.proofs.OfferLemmas.{none_of_name, named_alike}
use Rattle.type_search.proofs.search.module_type.Goals as goal

pub returns-in_default-2 : goal.returns-in_default-2
returns-in_default-2 c =
    sym (ap (option_map built_in) (none_of_name c.args.from.now c.args.name.now (subst (SpellsAscii c.args.name.now) c.in_default-2.is c.in_ok-name.ensures)))

pub returns-in-Some-lookup : goal.returns-in-Some-lookup
returns-in-Some-lookup c =
    ap (option_map built_in)
    (c.in-Some-lookup.ensures ∙
    named_alike c.args.from.now c.args.name.now c.in-Some.own c.in-Some-2.name c.deref.result.now c.deref-2.result.now
    (subst (SpellsAscii c.args.from.now) c.in-Some.is c.in_ok-own.ensures) (subst (SpellsAscii c.args.name.now) c.in-Some-2.is c.in_ok-name.ensures) c.deref.ensures c.deref-2.ensures)

pub returns : goal.returns
returns c =
    ap (option_map built_in)
    (c.in-None.ensures ∙
    named_alike c.args.from.now c.args.name.now c.in-Some.own c.in-Some-2.name c.deref.result.now c.deref-2.result.now
    (subst (SpellsAscii c.args.from.now) c.in-Some.is c.in_ok-own.ensures) (subst (SpellsAscii c.args.name.now) c.in-Some-2.is c.in_ok-name.ensures) c.deref.ensures c.deref-2.ensures)
