-- How a cut goes on over bytes that are no marks, and what pieces a cut leaves.
use Rattle.std.proofs.Common.{◌≡◌, ◌∙◌, ap, sym, refl, ℕ, ◌<◌, ◌≤◌, ◌+◌, ◌-◌, arith, true, false, List, [], ◌∷◌, ◌++◌, take, drop, length, get_or, Bool, append-nil}
use Rattle.std.proofs.lemmas.Grind.{common_steps}
use Rattle.std.proofs.lemmas.List.{drop_more, take_more, take_rest}
use Rattle.std.specs.declared.option.Option.{Option}
use Rattle.std.specs.declared.option.Option.TheVariants.{None, Some}
use Rattle.std.specs.Option.{option_map}
use Rattle.first_form.specs.Pieces.{is_mark, Cut, ahead_of_cut, cut_of, Pieces, last, piece, ahead, pieces_of}

-- the cut behind bytes that are no marks
abbrev pub behind : List ℕ → Option Cut → Option Cut
behind [] o = o
behind (b ∷ bs) o = option_map (ahead_of_cut b) (behind bs o)

behind-snoc : (bs : List ℕ) (b : ℕ) (o : Option Cut) → behind (bs ++ b ∷ []) o ≡ behind bs (option_map (ahead_of_cut b) o)
behind-snoc [] b o = refl
behind-snoc (x ∷ bs) b o = ap (option_map (ahead_of_cut x)) (behind-snoc bs b o)

behind-some : (bs : List ℕ) (c : Cut) → behind bs (Some c) ≡ Some (record { before = bs ++ c.before; mark = c.mark; after = c.after })
behind-some [] c = refl
behind-some (b ∷ bs) c = ap (option_map (ahead_of_cut b)) (behind-some bs c)

pub behind-none : (bs : List ℕ) → behind bs None ≡ None
behind-none [] = refl
behind-none (b ∷ bs) = ap (option_map (ahead_of_cut b)) (behind-none bs)

here : (marks bytes : List ℕ) (i : ℕ) → i < length bytes → cut_of marks (drop i bytes) ≡ cut_of marks (get_or bytes i 0 ∷ drop (i + 1) bytes)
here marks bytes i h = ap (cut_of marks) (drop_more bytes i 0 h)

not_here : (marks : List ℕ) (b : ℕ) (bs : List ℕ) → is_mark marks b ≡ false → option_map (ahead_of_cut b) (cut_of marks bs) ≡ cut_of marks (b ∷ bs)
not_here marks b bs e = rw e refl

pub no_mark : (marks bytes : List ℕ) (i : ℕ) → i < length bytes → is_mark marks (get_or bytes i 0) ≡ false → behind (take (i + 1) bytes) (cut_of marks (drop (i + 1) bytes)) ≡ behind (take i bytes) (cut_of marks (drop i bytes))
no_mark marks bytes i h e =
    ap (λ (front : List ℕ). behind front (cut_of marks (drop (i + 1) bytes))) (take_more bytes i 0 h)
    ∙ behind-snoc (take i bytes) (get_or bytes i 0) (cut_of marks (drop (i + 1) bytes))
    ∙ ap (behind (take i bytes)) (not_here marks (get_or bytes i 0) (drop (i + 1) bytes) e ∙ sym (here marks bytes i h))

here_is : (marks : List ℕ) (b : ℕ) (bs : List ℕ) → is_mark marks b ≡ true → cut_of marks (b ∷ bs) ≡ Some (record { before = []; mark = b; after = bs })
here_is marks b bs e = rw e refl

pub at_mark : (marks bytes : List ℕ) (i : ℕ) → i < length bytes → is_mark marks (get_or bytes i 0) ≡ true
    → behind (take i bytes) (cut_of marks (drop i bytes)) ≡ Some (record { before = take i bytes; mark = get_or bytes i 0; after = drop (i + 1) bytes })
at_mark marks bytes i h e =
    ap (behind (take i bytes)) (here marks bytes i h ∙ here_is marks (get_or bytes i 0) (drop (i + 1) bytes) e)
    ∙ behind-some (take i bytes) (record { before = []; mark = get_or bytes i 0; after = drop (i + 1) bytes })
    ∙ ap (λ (before : List ℕ). Some (record { before = before; mark = get_or bytes i 0; after = drop (i + 1) bytes })) (append-nil (take i bytes))

-- ---- pieces
-- what a cut says of the pieces
abbrev pub pieces_by : List ℕ → List ℕ → Option Cut → Pieces
pieces_by marks bytes None = last bytes
pieces_by marks bytes (Some c) = piece c.before c.mark (pieces_of marks c.after)

pieces_by-ahead : (marks bytes : List ℕ) (b : ℕ) (o : Option Cut) → ahead b (pieces_by marks bytes o) ≡ pieces_by marks (b ∷ bytes) (option_map (ahead_of_cut b) o)
pieces_by-ahead marks bytes b None = refl
pieces_by-ahead marks bytes b (Some c) = refl

by_mark : (marks bs : List ℕ) (b : ℕ) (is : Bool) → is_mark marks b ≡ is → pieces_of marks bs ≡ pieces_by marks bs (cut_of marks bs) → pieces_of marks (b ∷ bs) ≡ pieces_by marks (b ∷ bs) (cut_of marks (b ∷ bs))
by_mark marks bs b true e rest = rw e refl
by_mark marks bs b false e rest = rw e (ap (ahead b) rest ∙ pieces_by-ahead marks bs b (cut_of marks bs))

pub pieces_of-cut : (marks bytes : List ℕ) → pieces_of marks bytes ≡ pieces_by marks bytes (cut_of marks bytes)
pieces_of-cut marks [] = refl
pieces_of-cut marks (b ∷ bs) = by_mark marks bs b (is_mark marks b) refl (pieces_of-cut marks bs)

pub pieces_cut : (marks bytes : List ℕ) (c : Cut) → cut_of marks bytes ≡ Some c → pieces_of marks bytes ≡ piece c.before c.mark (pieces_of marks c.after)
pieces_cut marks bytes c e = pieces_of-cut marks bytes ∙ ap (pieces_by marks bytes) e

pub pieces_whole : (marks bytes : List ℕ) → cut_of marks bytes ≡ None → pieces_of marks bytes ≡ last bytes
pieces_whole marks bytes e = pieces_of-cut marks bytes ∙ ap (pieces_by marks bytes) e

-- ---- a mark is found at i, or nowhere
module _ (marks bytes : List ℕ) (i : ℕ) (so_far : behind (take i bytes) (cut_of marks (drop i bytes)) ≡ cut_of marks bytes) where
  pub found_at : i < length bytes → is_mark marks (get_or bytes i 0) ≡ true → Some (record { before = take i bytes; mark = get_or bytes i 0; after = take (length bytes - (i + 1)) (drop (i + 1) bytes) }) ≡ cut_of marks bytes
  found_at h e =
      ap (λ (after : List ℕ). Some (record { before = take i bytes; mark = get_or bytes i 0; after = after })) (take_rest bytes (i + 1))
      ∙ sym (at_mark marks bytes i h e) ∙ so_far

  pub found_pieces : i < length bytes → is_mark marks (get_or bytes i 0) ≡ true → pieces_of marks bytes ≡ piece (take i bytes) (get_or bytes i 0) (pieces_of marks (take (length bytes - (i + 1)) (drop (i + 1) bytes)))
  found_pieces h e = pieces_cut marks bytes (record { before = take i bytes; mark = get_or bytes i 0; after = take (length bytes - (i + 1)) (drop (i + 1) bytes) }) (sym (found_at h e))

  pub nowhere : length bytes ≤ i → None ≡ cut_of marks bytes
  nowhere h =
      let none : drop i bytes ≡ [] = grind (arith, common_steps) in
      sym (behind-none (take i bytes)) ∙ ap (λ (rest : List ℕ). behind (take i bytes) (cut_of marks rest)) (sym none) ∙ so_far

  pub nowhere_pieces : length bytes ≤ i → pieces_of marks bytes ≡ last bytes
  nowhere_pieces h = pieces_whole marks bytes (sym (nowhere h))
