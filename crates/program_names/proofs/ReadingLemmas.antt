-- Reading that comes to an end comes to the same end however many files it may read.
use Rattle.std.proofs.Common.{◌≡◌, ◌≢◌, ◌∙◌, ap, sym, refl, ℕ, zero, suc, ◌≤◌, arith, List, [], ◌∷◌, ◌++◌, inl, inr}
use Rattle.std.specs.Prelude.{◌⊎◌, ◌<◌, Contains}
use Rattle.std.proofs.lemmas.Bool.{cases_lt}
use Rattle.program_names.specs.Reading.{File, ReadFile, refused_by, mentioning, Reading, unfinished, refused, reading, queued, asked, asked_behind, AgreeOn}

abbrev with_file : (File → ReadFile) → ℕ → List File → File → List File → ReadFile → Reading
with_file read n done file queue how =
    elim how [
      | refused_by f ↦ refused file f
      | mentioning files ↦ reading read n (done ++ file ∷ []) (queued (done ++ file ∷ []) queue files)
    ]

-- either there are more files, or more of them may be read with the same answer
pub stays : (read : File → ReadFile) (n m : ℕ) (done queue : List File) → n ≤ m → (reading read n done queue ≡ unfinished) ⊎ (reading read m done queue ≡ reading read n done queue)
stays read n m done [] below = inr refl
stays read zero m done (file ∷ queue) below = inl refl
stays read (suc n) zero done (file ∷ queue) below = absurd (omega arith)
stays read (suc n) (suc m) done (file ∷ queue) below =
    elim (read file) as (λ how. (with_file read n done file queue how ≡ unfinished) ⊎ (with_file read m done file queue how ≡ with_file read n done file queue how)) [
      | refused_by f ↦ inr refl
      | mentioning files ↦ stays read n m (done ++ file ∷ []) (queued (done ++ file ∷ []) queue files) (omega arith)
    ]

pub one_end : (read : File → ReadFile) (n m : ℕ) (done queue : List File) → reading read n done queue ≢ unfinished → reading read m done queue ≢ unfinished → reading read n done queue ≡ reading read m done queue
one_end read n m done queue ends too = by_order (cases_lt n m)
  where
    up : (reading read n done queue ≡ unfinished) ⊎ (reading read m done queue ≡ reading read n done queue) → reading read n done queue ≡ reading read m done queue
    up (inl e) = absurd (ends e)
    up (inr e) = sym e

    down : (reading read m done queue ≡ unfinished) ⊎ (reading read n done queue ≡ reading read m done queue) → reading read n done queue ≡ reading read m done queue
    down (inl e) = absurd (too e)
    down (inr e) = e

    by_order : (n < m) ⊎ (m ≤ n) → reading read n done queue ≡ reading read m done queue
    by_order (inl below) = up (stays read n m done queue (omega arith))
    by_order (inr below) = down (stays read m n done queue below)

-- ---- only what is read counts

among_behind : (file : File) (rest : List File) (f : File) → Contains rest f → Contains (file ∷ rest) f
among_behind file rest f (k, below, at) = (suc k, omega arith, at)

abbrev next_queue : List File → File → List File → List File → List File
next_queue done file queue files = queued (done ++ file ∷ []) queue files

one_file : (read other : File → ReadFile) (n : ℕ) (done : List File) (file : File) (queue : List File) (how : ReadFile) → read file ≡ how → other file ≡ how
    → AgreeOn read other (asked_behind (λ files. asked read n (done ++ file ∷ []) (next_queue done file queue files)) how)
    → ((files : List File) → AgreeOn read other (asked read n (done ++ file ∷ []) (next_queue done file queue files))
    → reading read n (done ++ file ∷ []) (next_queue done file queue files) ≡ reading other n (done ++ file ∷ []) (next_queue done file queue files))
    → reading read (suc n) done (file ∷ queue) ≡ reading other (suc n) done (file ∷ queue)
one_file read other n done file queue (refused_by f) e g agree go = ap (with_file read n done file queue) e ∙ sym (ap (with_file other n done file queue) g)
one_file read other n done file queue (mentioning files) e g agree go =
    ap (with_file read n done file queue) e ∙ go files agree ∙ sym (ap (with_file other n done file queue) g)

pub same_end : (read other : File → ReadFile) (n : ℕ) (done queue : List File) → AgreeOn read other (asked read n done queue) → reading read n done queue ≡ reading other n done queue
same_end read other n done [] agree = refl
same_end read other zero done (file ∷ queue) agree = refl
same_end read other (suc n) done (file ∷ queue) agree =
    one_file read other n done file queue (read file) refl (sym (agree file (0, omega arith, refl)))
    (λ f c. agree f (among_behind file (asked_behind (λ files. asked read n (done ++ file ∷ []) (next_queue done file queue files)) (read file)) f c))
    (λ files h. same_end read other n (done ++ file ∷ []) (next_queue done file queue files) h)
