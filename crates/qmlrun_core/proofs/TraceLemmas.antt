-- From a part of reading to the whole of it.
use Rattle.std.proofs.Common.{◌≡◌, refl, subst, ℕ, List, inl, inr, None, Some}
use Rattle.std.specs.Prelude.{IfSome, IsOk}
use Rattle.std.specs.declared.option.Option.{Option}
use Rattle.std.specs.declared.result.Result.{Result}
use Rattle.std.specs.declared.result.Result.TheVariants.{Ok}
use Rattle.qml_outside.specs.Folder.{Folder, file_at}
use Rattle.first_form.specs.declared.members.Member.{Member}
use Rattle.qml_model.specs.declared.trace.LoadCause.{LoadCause}
use Rattle.qml_model.specs.Machine.{Output}
use Rattle.qml_model.specs.declared.trace.Ending.{Ending}
use Rattle.qmlrun_core.specs.Answer.{load, lines_read, with_lines, with_program}
use Rattle.qmlrun_core.specs.Steps.{IsOutput}
use Rattle.qmlrun_core.specs.Traces.{KnownFiles, Traces, MayFail, NeedsOf}
use Rattle.qmlrun_core.specs.declared.answer.Traced.{Traced}
use Rattle.qmlrun_core.specs.declared.answer.Traced.TheVariants.{Ends, ReadFailed}

-- the same, where what is needed is a fact more
with_fact : (P : Type 0) (traced : Traced) (old new : KnownFiles) (script before now : List ℕ) (output : Folder → Output) → P
    → Traces traced old new (λ file. file ≡ script) before now output → Traces traced old new (λ file. (file ≡ script) × P) before now output
with_fact P (Ends how) old new script before now output p t = t
with_fact P ReadFailed old new script before now output p t = let (file, is, fails, told) = t in (file, (is, p), fails, told)

-- once the root is a program, the script is needed
pub loaded_traced : (traced : Traced) (old new : KnownFiles) (root script before now : List ℕ) (members : List Member) (loaded : Result (List Member) LoadCause) → Ok members ≡ loaded
    → Traces traced old new (λ file. file ≡ script) before now (λ files. with_lines root script members (lines_read members (file_at files script)))
    → Traces traced old new (λ file. (file ≡ script) × IsOk loaded) before now (with_program root script loaded)
loaded_traced traced old new root script before now members loaded e t =
    let P : Result (List Member) LoadCause → Type 0 = λ l. Traces traced old new (λ file. (file ≡ script) × IsOk l) before now (with_program root script l) in
    subst P e (with_fact (IsOk {T = List Member} {E = LoadCause} (Ok members)) traced old new script before now (λ files. with_lines root script members (lines_read members (file_at files script))) refl t)

needs_script : (told : Option Folder) (root script file : List ℕ) (bytes : Option (List ℕ)) → IfSome told (λ files. bytes ≡ file_at files root) → file ≡ script → IsOk (load bytes) → NeedsOf root script told file
needs_script None root script file bytes found is ok = inr (is, tt)
needs_script (Some files) root script file bytes found is ok = inr (is, subst (λ (bs : Option (List ℕ)). IsOk (load bs)) found ok)

as_told : (told : Option Folder) (root script before now : List ℕ) (how : Ending) (bytes : Option (List ℕ)) → IfSome told (λ files. bytes ≡ file_at files root)
    → IfSome told (λ files. IsOutput before now how (with_program root script (load bytes) files)) → IfSome told (λ files. IsOutput before now how (with_program root script (load (file_at files root)) files))
as_told None root script before now how bytes found is = tt
as_told (Some files) root script before now how bytes found is = subst (λ (bs : Option (List ℕ)). IsOutput before now how (with_program root script (load bs) files)) found is

-- the root's bytes are those of its file
pub root_traced : (traced : Traced) (old new : KnownFiles) (root script before now : List ℕ) (bytes : Option (List ℕ)) → IfSome old.told (λ files. bytes ≡ file_at files root)
    → Traces traced old new (λ file. (file ≡ script) × IsOk (load bytes)) before now (with_program root script (load bytes))
    → Traces traced old new (NeedsOf root script old.told) before now (λ files. with_program root script (load (file_at files root)) files)
root_traced (Ends how) old new root script before now bytes found (none, ne, is) = (none, ne, as_told old.told root script before now how bytes found is)
root_traced ReadFailed old new root script before now bytes found (file, (is, ok), fails, told) = (file, needs_script old.told root script file bytes found is ok, fails, told)

-- the same of what failed, where there was no memory
pub loaded_failing : (old new : KnownFiles) (script : List ℕ) (members : List Member) (loaded : Result (List Member) LoadCause) → Ok members ≡ loaded
    → MayFail old new (λ file. file ≡ script) → MayFail old new (λ file. (file ≡ script) × IsOk loaded)
loaded_failing old new script members loaded e (inl none) = inl none
loaded_failing old new script members loaded e (inr (file, is, fails)) = inr (file, (is, subst (λ (l : Result (List Member) LoadCause). IsOk l) e refl), fails)

pub root_failing : (old new : KnownFiles) (root script : List ℕ) (bytes : Option (List ℕ)) → IfSome old.told (λ files. bytes ≡ file_at files root)
    → MayFail old new (λ file. (file ≡ script) × IsOk (load bytes)) → MayFail old new (NeedsOf root script old.told)
root_failing old new root script bytes found (inl none) = inl none
root_failing old new root script bytes found (inr (file, (is, ok), fails)) = inr (file, needs_script old.told root script file bytes found is ok, fails)
