-- The second pass behind the first.
use Rattle.std.proofs.Common.{◌≡◌, sym, subst, List, Option, None, Result, Ok, Err, IfOk}
use Rattle.program_names.specs.Paths.{Path}
use Rattle.program_names.specs.Reading.{File, Sources, all_read}
use Rattle.type_search.specs.declared.files.SearchFault.{SearchFault}
use Rattle.program_passes.specs.declared.passes.Passed.{Passed}
use Rattle.program_passes.specs.declared.passes.Passed.TheVariants as passed
use Rattle.program_passes.specs.Passed.{ReadsTo, cycle_of, PassesCycles, IsPassed}

pub passed_by : (r : Result Passed SearchFault) (path : Path) (files : List File) (before now : Sources → Type 0) → ((s : Sources) → now s → before s)
    → ((s : Sources) → before s → ReadsTo s path (all_read files))
    → IfOk r (λ p. (s : Sources) → now s → PassesCycles s files p) → IfOk r (λ p. (s : Sources) → now s → IsPassed s path p)
passed_by (Err x) path files before now steady reads told = _
passed_by (Ok (passed.Unread f x)) path files before now steady reads told = λ s h. absurd (told s h)
passed_by (Ok (passed.Cycle at x)) path files before now steady reads told = λ s h. (files, reads s (steady s h), told s h)
passed_by (Ok (passed.All program)) path files before now steady reads told = λ s h.
    (subst (λ fs. ReadsTo s path (all_read fs)) (sym (told s h).0) (reads s (steady s h)), subst (λ fs. cycle_of s fs ≡ None) (sym (told s h).0) (told s h).1)
