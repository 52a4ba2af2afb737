-- The names around a place of code in one list, the innermost in front, and where code stands so.
use Rattle.std.specs.Prelude.{ℕ, Bool, true, false, ◌||◌, List, [], ◌∷◌, ◌++◌, Option, None}
use Rattle.std.specs.Str.{bytes_eq}
use Rattle.std.specs.Option.{option_or}
use Rattle.qml_base.specs.declared.numbers.Place.{Place}
use Rattle.qml_syntax.specs.Tree.{Units}
use Rattle.program_names.specs.Names.{is_in}
use Rattle.load_faults.specs.NamesInCode.{Standpoint}
use Rattle.js_locals.specs.Laid.{Laid, name_of}
use Rattle.code_deeds.specs.declared.around.Entry.{Entry}
use Rattle.code_deeds.specs.declared.around.Entry.TheVariants as entry

abbrev pub named : Units → Standpoint → Standpoint
named n h = record h { locals = n ∷ h.locals }

-- inside the function of a `Qt.binding`, before its own names
abbrev pub in_function : Option Place → Standpoint → Standpoint
in_function at h = record h {
  locals = [];
  around = h.locals ++ h.around;
  inside = option_or at h.inside;
  pure = true;
}

abbrev pub standing : Laid → Standpoint → List Entry → Standpoint
standing c h [] = h
standing c h (entry.Name p ∷ es) = named (name_of c p) (standing c h es)
standing c h (entry.Block ∷ es) = standing c h es
standing c h (entry.Function at ∷ es) = in_function at (standing c h es)

-- ---- what is asked of it, where these names are given at first

abbrev pub names_it : Laid → Units → ℕ → Bool
names_it c n p = bytes_eq n (name_of c p)

abbrev pub is_it : Laid → Units → Entry → Bool
is_it c n (entry.Name p) = names_it c n p
is_it c n entry.Block = false
is_it c n (entry.Function at) = false

abbrev pub begins_function : Entry → Bool
begins_function (entry.Name p) = false
begins_function entry.Block = false
begins_function (entry.Function at) = true

abbrev pub is_local : Laid → List Units → Units → List Entry → Bool
is_local c given n [] = is_in n given
is_local c given n (e ∷ es) = is_it c n e || elim (begins_function e) [ true ↦ false | false ↦ is_local c given n es ]

abbrev pub is_anywhere : Laid → List Units → Units → List Entry → Bool
is_anywhere c given n [] = is_in n given
is_anywhere c given n (e ∷ es) = is_it c n e || is_anywhere c given n es

abbrev pub is_around : Laid → List Units → Units → List Entry → Bool
is_around c given n [] = false
is_around c given n (e ∷ es) =
    elim (begins_function e) [ true ↦ is_anywhere c given n es | false ↦ is_around c given n es ]

abbrev pub is_pure : Bool → List Entry → Bool
is_pure pure [] = pure
is_pure pure (e ∷ es) = begins_function e || is_pure pure es

abbrev pub place_of_function : Entry → Option Place
place_of_function (entry.Name p) = None
place_of_function entry.Block = None
place_of_function (entry.Function at) = at

abbrev pub inside : List Entry → Option Place
inside [] = None
inside (e ∷ es) = option_or (place_of_function e) (inside es)

-- what is left where the innermost block or function ends
abbrev pub outer : List Entry → List Entry
outer [] = []
outer (entry.Name p ∷ es) = outer es
outer (entry.Block ∷ es) = es
outer (entry.Function at ∷ es) = es
