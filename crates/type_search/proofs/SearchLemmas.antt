-- The search over rows of imports is that of a type's name.
use Rattle.std.proofs.Common.{◌≡◌, ◌∙◌, ap, sym, refl, Bool, true, false, not, ◌&&◌, if◌then◌else◌, List, [], ◌∷◌, ◌++◌, map, reverse, Option, None}
use Rattle.std.specs.Option.{option_or, option_map}
use Rattle.std.proofs.lemmas.List.{reverse-append, map-append}
use Rattle.qml_syntax.specs.Tree.{Units, Import, import_module, import_text}
use Rattle.qml_types.specs.Table.{offered, offers}
use Rattle.program_names.specs.Paths.{Path, joined_to}
use Rattle.program_names.specs.Utf8.{utf8_of}
use Rattle.program_names.specs.Types.{TypeFound, built_in, found_type, is_script_text, module_name}
use Rattle.document_imports.specs.Imports.{row_of, a_directory, a_script}
use Rattle.type_search.specs.Search.{Exists, same_qualifier, file_in, source_type, row_type, rows_type, own_type, searched}

abbrev found_by : Exists → Path → Option Units → Units → Import → Option TypeFound
found_by exists here wanted name (import_module first p names v qualifier c) =
    if same_qualifier wanted qualifier then option_map built_in (offered offers (module_name first names) name) else None
found_by exists here wanted name (import_text text p qualifier c) =
    if same_qualifier wanted qualifier && not (is_script_text text)
    then file_in exists (joined_to here (utf8_of text)) name
    else None

abbrev found_in_imports : Exists → Path → Option Units → Units → List Import → Option TypeFound
found_in_imports exists here wanted name [] = None
found_in_imports exists here wanted name (i ∷ rest) =
    option_or (found_by exists here wanted name i) (found_in_imports exists here wanted name rest)

found_is : (exists : Exists) (here : Path) (imports : List Import) (wanted : Option Units) (name : Units)
    → found_type exists here imports wanted name ≡ option_or (found_in_imports exists here wanted name (reverse imports)) (own_type exists here wanted name)
found_is exists here imports wanted name = refl

by_text : (exists : Exists) (name : Units) (path : Path) (same script : Bool)
    → (if same then source_type exists name (if script then a_script path else a_directory path) else None) ≡ (if same && not script then file_in exists path name else None)
by_text exists name path true true = refl
by_text exists name path true false = refl
by_text exists name path false script = refl

one_import : (exists : Exists) (here : Path) (wanted : Option Units) (name : Units) (i : Import) → row_type exists wanted name (row_of here i) ≡ found_by exists here wanted name i
one_import exists here wanted name (import_module first p names v q c) = refl
one_import exists here wanted name (import_text text p q c) = by_text exists name (joined_to here (utf8_of text)) (same_qualifier wanted q) (is_script_text text)

all_imports : (exists : Exists) (here : Path) (wanted : Option Units) (name : Units) (is : List Import) → rows_type exists wanted name (map (row_of here) is) ≡ found_in_imports exists here wanted name is
all_imports exists here wanted name [] = refl
all_imports exists here wanted name (i ∷ is) =
    ap (λ f. option_or f (rows_type exists wanted name (map (row_of here) is))) (one_import exists here wanted name i) ∙
    ap (λ f. option_or (found_by exists here wanted name i) f) (all_imports exists here wanted name is)

reverse_cons : {A : Type 0} (x : A) (xs : List A) → reverse (x ∷ xs) ≡ reverse xs ++ x ∷ []
reverse_cons x xs = reverse-append (x ∷ []) xs

map_reverse : {A B : Type 0} (f : A → B) (xs : List A) → map f (reverse xs) ≡ reverse (map f xs)
map_reverse f [] = refl
map_reverse f (x ∷ xs) =
    ap (map f) (reverse_cons x xs) ∙ map-append f (reverse xs) (x ∷ []) ∙ ap (λ ys. ys ++ f x ∷ []) (map_reverse f xs) ∙ sym (reverse_cons (f x) (map f xs))

pub search_finds : (exists : Exists) (here : Path) (imports : List Import) (wanted : Option Units) (name : Units)
    → searched exists here (map (row_of here) imports) wanted name ≡ found_type exists here imports wanted name
search_finds exists here imports wanted name =
    ap (λ f. option_or f (own_type exists here wanted name))
    (ap (rows_type exists wanted name) (sym (map_reverse (row_of here) imports)) ∙ all_imports exists here wanted name (reverse imports)) ∙
    sym (found_is exists here imports wanted name)
