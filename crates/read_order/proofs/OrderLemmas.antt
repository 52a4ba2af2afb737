-- Files that lie in a set, and the order of reading.
use Rattle.std.proofs.Common.{◌≡◌, ◌∙◌, ap, sym, refl, ℕ, zero, suc, ◌+◌, arith, Bool, true, false, ◌||◌, if◌then◌else◌, List, [], ◌∷◌, ◌++◌, length, Option, None, Some, Result, Ok, Err}
use Rattle.std.specs.List.{list_any}
use Rattle.std.specs.Result.{OnOk, is_err}
use Rattle.std.proofs.lemmas.List.Folds.{list_any-append}
use Rattle.std.specs.Prelude.{slice_get, is_some, unwrap_or, option_map}
use Rattle.std.proofs.lemmas.Bool.{false≢true}
use Rattle.std.proofs.lemmas.List.{length-append, append-nil}
use Rattle.indexmap.specs.IndexSet.{insert_key}
use Rattle.program_names.specs.declared.fault.Fault.{Fault}
use Rattle.program_names.specs.Reading.{File, ReadFile, refused_by, mentioning, same_file, is_among, Reading, refused, all_read, queued, reading}
use Rattle.read_order.specs.declared.file.File as code
use Rattle.read_order.specs.Order.{file_of, files_of, put, put_all}

abbrev pub Reader : Type 0
Reader = File → ReadFile

abbrev Keys : Type 0
Keys = List code.File

abbrev same_key : code.File → code.File → Bool
same_key a b = same_file (file_of a) (file_of b)

any_alike : (keys : Keys) (k : code.File) → list_any (same_key k) keys ≡ is_among (file_of k) (files_of keys)
any_alike [] k = refl
any_alike (x ∷ keys) k = ap (λ b. same_file (file_of k) (file_of x) || b) (any_alike keys k)

paths-append : (some others : Keys) → files_of (some ++ others) ≡ files_of some ++ files_of others
paths-append [] others = refl
paths-append (x ∷ some) others = ap (λ (ps : List File). file_of x ∷ ps) (paths-append some others)

by_test : (keys : Keys) (k : code.File) (b : Bool) → files_of (if b then keys else keys ++ k ∷ []) ≡ (if b then files_of keys else files_of keys ++ file_of k ∷ [])
by_test keys k true = refl
by_test keys k false = paths-append keys (k ∷ [])

pub put_alike : (keys : Keys) (k : code.File) → files_of (insert_key same_key keys k) ≡ put (files_of keys) (file_of k)
put_alike keys k = by_test keys k (list_any (same_key k) keys) ∙ ap (λ b. if b then files_of keys else files_of keys ++ file_of k ∷ []) (any_alike keys k)

append_assoc : (a b c : List File) → (a ++ b) ++ c ≡ a ++ (b ++ c)
append_assoc [] b c = refl
append_assoc (x ∷ a) b c = ap (λ (ps : List File). x ∷ ps) (append_assoc a b c)

put_behind : (done queue : List File) (file : File) (b : Bool)
    → (if b then done ++ queue else (done ++ queue) ++ file ∷ []) ≡ done ++ (if b then queue else queue ++ file ∷ [])
put_behind done queue file true = refl
put_behind done queue file false = append_assoc done queue (file ∷ [])

-- putting files behind those that were read and those that wait is queueing them
pub put_all_queued : (done queue ms : List File) → put_all (done ++ queue) ms ≡ done ++ queued done queue ms
put_all_queued done queue [] = refl
put_all_queued done queue (m ∷ ms) =
    ap (λ files. put_all files ms) (ap (λ b. if b then done ++ queue else (done ++ queue) ++ m ∷ []) (list_any-append (same_file m) done queue) ∙ put_behind done queue m (is_among m done || is_among m queue)) ∙
    put_all_queued done (if is_among m done || is_among m queue then queue else queue ++ m ∷ []) ms

-- ---- the files with the number of those that were read

pub put_one : (root : File) → put [] root ≡ root ∷ []
put_one root = refl

-- Reading of all files stands where so many were read.
pub record Stands (read : Reader) (root : File) (files : List File) (at : ℕ) : Type 0 where
  pub done : List File
  pub queue : List File
  pub split : files ≡ done ++ queue
  pub long : length done ≡ at
  pub goes_on : (m : ℕ) → reading read (m + at) [] (root ∷ []) ≡ reading read m done queue

pub stands_first : (read : Reader) (root : File) (files : List File) → files ≡ root ∷ [] → Stands read root files 0
stands_first read root files e = record {
  done = [];
  queue = root ∷ [];
  split = e;
  long = refl;
  goes_on = λ m. ap (λ n. reading read n [] (root ∷ [])) (omega arith);
}

length_is : (done queue : List File) → length (done ++ queue) ≡ length done + length queue
length_is done queue = length-append done queue

-- where no file has this place, nothing waits
nothing_waits : (queue : List File) → length queue ≡ 0 → queue ≡ []
nothing_waits [] e = refl
nothing_waits (f ∷ queue) e = absurd (omega arith)

got_at : (done queue : List File) → slice_get (done ++ queue) (length done) ≡ slice_get queue 0
got_at [] queue = refl
got_at (d ∷ done) queue = got_at done queue

none_waits : (queue : List File) → slice_get queue 0 ≡ None → queue ≡ []
none_waits [] e = refl
none_waits (f ∷ queue) e = absurd (false≢true (sym (ap is_some e)))

pub ends : (read : Reader) (root : File) (files : List File) (at : ℕ) → Stands read root files at → slice_get files at ≡ None
    → (n : ℕ) × (reading read n [] (root ∷ []) ≡ all_read files)
ends read root files at s none =
    let empty : s.queue ≡ [] = none_waits s.queue (sym (got_at s.done s.queue) ∙ ap (slice_get (s.done ++ s.queue)) s.long ∙ ap (λ fs. slice_get fs at) (sym s.split) ∙ none) in
    let whole : files ≡ s.done = s.split ∙ ap (λ q. s.done ++ q) empty ∙ append-nil s.done in
    (0 + at, s.goes_on 0 ∙ ap (reading read 0 s.done) empty ∙ ap all_read (sym whole))

waits_first : (queue : List File) (f : File) → slice_get queue 0 ≡ Some f → (rest : List File) × (queue ≡ f ∷ rest)
waits_first [] f e = absurd (false≢true (ap is_some e))
waits_first (x ∷ queue) f e = (queue, ap (λ (o : Option File). unwrap_or o f ∷ queue) e)

next_of : (read : Reader) (root : File) (files : List File) (at : ℕ) (s : Stands read root files at) (f : File) → slice_get files at ≡ Some f → (rest : List File) × (s.queue ≡ f ∷ rest)
next_of read root files at s f e = waits_first s.queue f (sym (got_at s.done s.queue) ∙ ap (slice_get (s.done ++ s.queue)) s.long ∙ ap (λ fs. slice_get fs at) (sym s.split) ∙ e)

abbrev with_file : Reader → ℕ → List File → File → List File → ReadFile → Reading
with_file read m done f rest how =
    elim how [
      | refused_by x ↦ refused f x
      | mentioning files ↦ reading read m (done ++ f ∷ []) (queued (done ++ f ∷ []) rest files)
    ]

pub stands_next : (read : Reader) (root : File) (files after : List File) (at : ℕ) (f : File) (ms : List File)
    → Stands read root files at → slice_get files at ≡ Some f → read f ≡ mentioning ms → after ≡ put_all files ms → Stands read root after (at + 1)
stands_next read root files after at f ms s got told put =
    let w : (rest : List File) × (s.queue ≡ f ∷ rest) = next_of read root files at s f got in
    record {
      done = s.done ++ f ∷ [];
      queue = queued (s.done ++ f ∷ []) w.0 ms;
      split = put ∙ ap (λ fs. put_all fs ms) (s.split ∙ ap (λ q. s.done ++ q) w.1 ∙ sym (append_assoc s.done (f ∷ []) w.0)) ∙ put_all_queued (s.done ++ f ∷ []) w.0 ms;
      long = length-append s.done (f ∷ []) ∙ ap (λ n. n + 1) s.long;
      goes_on = λ m.
          ap (λ n. reading read n [] (root ∷ [])) (shifted m at) ∙ s.goes_on (suc m) ∙ ap (reading read (suc m) s.done) w.1 ∙
          ap (with_file read m s.done f w.0) told;
    }
  where
    shifted : (m n : ℕ) → m + (n + 1) ≡ suc m + n
    shifted m n = omega arith

pub ends_refused : (read : Reader) (root : File) (files : List File) (at : ℕ) (f : File) (x : Fault) → Stands read root files at → slice_get files at ≡ Some f → read f ≡ refused_by x
    → (n : ℕ) × (reading read n [] (root ∷ []) ≡ refused f x)
ends_refused read root files at f x s got told =
    let w : (rest : List File) × (s.queue ≡ f ∷ rest) = next_of read root files at s f got in
    (1 + at, s.goes_on 1 ∙ ap (reading read 1 s.done) w.1 ∙ ap (with_file read 0 s.done f w.0) told)

pub got_path : (keys : Keys) (at : ℕ) → slice_get (files_of keys) at ≡ option_map file_of (slice_get keys at)
got_path [] at = refl
got_path (k ∷ keys) zero = refl
got_path (k ∷ keys) (suc at) = got_path keys at

pub ok_of : {T E : Type 0} (r : Result T E) (P : Type 0) → OnOk r P → is_err r ≡ false → P
ok_of (Ok x) P h e = h
ok_of (Err x) P h e = absurd (false≢true (sym e))
