-- What the entries around a place tell is what the code that stands there has.
use Rattle.std.proofs.Common.{◌≡◌, ◌∙◌, ap, sym, refl, ℕ, Bool, true, false, ◌||◌, List, [], ◌∷◌, ◌++◌}
use Rattle.std.specs.Str.{bytes_eq}
use Rattle.std.specs.Option.{option_or}
use Rattle.std.proofs.lemmas.List.Folds.{list_any-append}
use Rattle.qml_base.specs.declared.numbers.Place.{Place}
use Rattle.qml_syntax.specs.Tree.{Units}
use Rattle.qml_syntax.specs.Nodes.{Table}
use Rattle.program_names.specs.Names.{is_in}
use Rattle.load_faults.specs.NamesInCode.{Standpoint, NameInCode, found_in_code, is_in_script}
use Rattle.load_faults.specs.Code.{within}
use Rattle.js_locals.specs.Laid.{Laid, laid, name_of}
use Rattle.code_deeds.specs.declared.around.Entry.{Entry}
use Rattle.code_deeds.specs.declared.around.Entry.TheVariants as entry
use Rattle.code_deeds.specs.declared.around.Start.{Start}
use Rattle.code_deeds.specs.Deeds as d
use Rattle.code_deeds.specs.Around as a
use Rattle.code_deeds.specs.Scopes.{name_entries, names_at}
use Rattle.code_deeds.specs.Left.{Fits}

or_none : (b : Bool) → b ≡ (b || false)
or_none true = refl
or_none false = refl

or_assoc : (a b c : Bool) → (a || (b || c)) ≡ ((a || b) || c)
or_assoc true b c = refl
or_assoc false b c = refl

module _ (c : Laid) (st : Start) (h : Standpoint) (fits : Fits st h) where
  pub local_told : (n : Units) (es : List Entry) → a.is_local c st.given.items n es ≡ is_in n (a.standing c h es).locals
  local_told n [] = ap (is_in n) (sym fits.locals)
  local_told n (entry.Name p ∷ es) = ap (λ b. bytes_eq n (name_of c p) || b) (local_told n es)
  local_told n (entry.Block ∷ es) = local_told n es
  local_told n (entry.Function q ∷ es) = refl

  pub anywhere_told : (n : Units) (es : List Entry) → a.is_anywhere c st.given.items n es ≡ (is_in n (a.standing c h es).locals || is_in n (a.standing c h es).around)
  anywhere_told n [] = ap (is_in n) (sym fits.locals) ∙ or_none (is_in n h.locals) ∙ ap (λ ns. is_in n h.locals || is_in n ns) (sym fits.around)
  anywhere_told n (entry.Name p ∷ es) =
      ap (λ b. bytes_eq n (name_of c p) || b) (anywhere_told n es) ∙
      or_assoc (bytes_eq n (name_of c p)) (is_in n (a.standing c h es).locals) (is_in n (a.standing c h es).around)
  anywhere_told n (entry.Block ∷ es) = anywhere_told n es
  anywhere_told n (entry.Function q ∷ es) =
      anywhere_told n es ∙ sym (list_any-append (bytes_eq n) (a.standing c h es).locals (a.standing c h es).around)

  pub around_told : (n : Units) (es : List Entry) → a.is_around c st.given.items n es ≡ is_in n (a.standing c h es).around
  around_told n [] = ap (is_in n) (sym fits.around)
  around_told n (entry.Name p ∷ es) = around_told n es
  around_told n (entry.Block ∷ es) = around_told n es
  around_told n (entry.Function q ∷ es) =
      anywhere_told n es ∙ sym (list_any-append (bytes_eq n) (a.standing c h es).locals (a.standing c h es).around)

  pub pure_told : (es : List Entry) → a.is_pure st.pure es ≡ (a.standing c h es).pure
  pure_told [] = sym fits.pure
  pure_told (entry.Name p ∷ es) = pure_told es
  pure_told (entry.Block ∷ es) = pure_told es
  pure_told (entry.Function q ∷ es) = refl

  pub inside_told : (es : List Entry) → a.inside es ≡ (a.standing c h es).inside
  inside_told [] = sym fits.inside
  inside_told (entry.Name p ∷ es) = inside_told es
  inside_told (entry.Block ∷ es) = inside_told es
  inside_told (entry.Function q ∷ es) = ap (option_or q) (inside_told es)

-- ---- what it hasn't to do with

pub same_script : (c : Laid) (h : Standpoint) (es : List Entry) → is_in_script (a.standing c h es) ≡ is_in_script h
same_script c h [] = refl
same_script c h (entry.Name p ∷ es) = same_script c h es
same_script c h (entry.Block ∷ es) = same_script c h es
same_script c h (entry.Function q ∷ es) = same_script c h es

pub same_found : (c : Laid) (h : Standpoint) (n : Units) (es : List Entry) → found_in_code (a.standing c h es) n ≡ found_in_code h n
same_found c h n [] = refl
same_found c h n (entry.Name p ∷ es) = same_found c h n es
same_found c h n (entry.Block ∷ es) = same_found c h n es
same_found c h n (entry.Function q ∷ es) = same_found c h n es

pub same_call : (c : Laid) (h : Standpoint) (x : NameInCode) (n m : Units) (q : Place) (es : List Entry) → d.call_by_member (a.standing c h es) x n m q ≡ d.call_by_member h x n m q
same_call c h x n m q [] = refl
same_call c h x n m q (entry.Name p ∷ es) = same_call c h x n m q es
same_call c h x n m q (entry.Block ∷ es) = same_call c h x n m q es
same_call c h x n m q (entry.Function b ∷ es) = same_call c h x n m q es

-- ---- names that are entered

pub with_names : (t : Table) (h : Standpoint) (ps : List ℕ) (es : List Entry) → a.standing (laid t) h (name_entries ps ++ es) ≡ within (a.standing (laid t) h es) (names_at t ps)
with_names t h [] es = refl
with_names t h (p ∷ ps) es = ap (a.named (name_of (laid t) p)) (with_names t h ps es)

pub outer_names : (ps : List ℕ) (es : List Entry) → a.outer (name_entries ps ++ es) ≡ a.outer es
outer_names [] es = refl
outer_names (p ∷ ps) es = outer_names ps es
