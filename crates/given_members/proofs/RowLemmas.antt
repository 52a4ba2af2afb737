-- What rows are given for, one after another.
use Rattle.std.proofs.Common.{◌≡◌, ◌∙◌, ap, sym, refl, ℕ, suc, ◌+◌, ◌<◌, ◌≤◌, List, [], ◌∷◌, ◌++◌, length, map, get_or, drop, add-one, drop-cons}
use Rattle.std.specs.declared.alloc.Global.{Global}
use Rattle.std.specs.declared.vec.Vec.{Vec}
use Rattle.std.proofs.lemmas.List.{append_assoc, append-nil, drop_all, map-append}
use Rattle.qml_syntax.specs.Tree.{Units}
use Rattle.document_rows.specs.WholePaths.{path_at}
use Rattle.document_members.specs.Members.{added_by}
use Rattle.program_tables.specs.declared.building.UnitRow.{UnitRow}
use Rattle.program_tables.specs.declared.names.UnitNames.{UnitNames}
use Rattle.path_ends.specs.declared.aliases.UnitEnds.{UnitEnds}
use Rattle.document_tables.specs.declared.program.DocumentTable.{DocumentTable}
use Rattle.handler_names.specs.declared.declared.UnitHandlers.{UnitHandlers}
use Rattle.change_targets.specs.declared.walking.UnitTargets.{UnitTargets}
use Rattle.property_faults.specs.declared.given.GivenFor.{GivenFor}
use Rattle.given_members.specs.Paths.{names_in_path}
use Rattle.given_members.specs.Rows.{for_member, for_rows}

pub goes_on : (us : List UnitNames) (hs : List UnitHandlers) (known : List UnitEnds) (ts : List UnitTargets) (documents : List DocumentTable) (d : ℕ) (rows : List UnitRow) (i : ℕ) (r : UnitRow)
    (before : List Units) (y : GivenFor) (path : Vec Units Global) (paths after : List (Vec Units Global)) (found more all : List GivenFor) → i < length rows
    → before ≡ path_at (map names_in_path paths) (get_or rows i r).row.group
    → y ≡ for_member us hs known ts documents d (get_or rows i r).row.object before (get_or rows i r).member
    → names_in_path path ≡ before ++ added_by (get_or rows i r).member → more ≡ found ++ y ∷ [] → after ≡ paths ++ path ∷ []
    → found ++ for_rows us hs known ts documents d (map names_in_path paths) (drop i rows) ≡ all → more ++ for_rows us hs known ts documents d (map names_in_path after) (drop (i + 1) rows) ≡ all
goes_on us hs known ts documents d rows i r before y path paths after found more all h b e p m a l =
    let x = get_or rows i r in
    let whole = path_at (map names_in_path paths) x.row.group in
    ap (λ zs. zs ++ for_rows us hs known ts documents d (map names_in_path after) (drop (i + 1) rows)) m ∙
    append_assoc found (y ∷ []) (for_rows us hs known ts documents d (map names_in_path after) (drop (i + 1) rows)) ∙
    ap (λ k. found ++ y ∷ for_rows us hs known ts documents d (map names_in_path after) (drop k rows)) (add-one i) ∙
    ap (λ ps. found ++ y ∷ for_rows us hs known ts documents d ps (drop (suc i) rows))
    (ap (map names_in_path) a ∙ map-append names_in_path paths (path ∷ []) ∙ ap (λ ns. map names_in_path paths ++ ns ∷ []) (p ∙ ap (λ ns. ns ++ added_by x.member) b)) ∙
    ap (λ z. found ++ z ∷ for_rows us hs known ts documents d (map names_in_path paths ++ (whole ++ added_by x.member) ∷ []) (drop (suc i) rows))
    (e ∙ ap (λ ns. for_member us hs known ts documents d x.row.object ns x.member) b) ∙
    ap (λ rs. found ++ for_rows us hs known ts documents d (map names_in_path paths) rs) (sym (drop-cons rows i r h)) ∙ l

pub none_left : (us : List UnitNames) (hs : List UnitHandlers) (known : List UnitEnds) (ts : List UnitTargets) (documents : List DocumentTable) (d : ℕ) (rows : List UnitRow) (i : ℕ)
    (paths : List (Vec Units Global)) (found all : List GivenFor) → length rows ≤ i → found ++ for_rows us hs known ts documents d (map names_in_path paths) (drop i rows) ≡ all → found ≡ all
none_left us hs known ts documents d rows i paths found all h l =
    sym (append-nil found) ∙ ap (λ rs. found ++ for_rows us hs known ts documents d (map names_in_path paths) rs) (sym (drop_all i rows h)) ∙ l
