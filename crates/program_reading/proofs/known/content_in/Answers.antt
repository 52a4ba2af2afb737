use Rattle.std.proofs.Common.{◌≡◌, ◌∙◌, sym, subst, None}
use Rattle.std.specs.Map.{lookup}
use Rattle.file_sources.specs.Contents.{Shows, IsFound}
use Rattle.read_order.specs.Order.{file_of}
use Rattle.program_reading.specs.Kept.{entries_of, same_key}
use Rattle.program_reading.proofs.KnownLemmas.{shown_known, unknown_is, more_some, more_told, more_steady, more_allowed}
use Rattle.program_reading.proofs.FolderLemmas.{shown_of}
use Rattle.program_reading.proofs.known.content_in.Goals as goal

pub returns-in-Ok-Some-clause-shown : goal.returns-in-Ok-Some-clause-shown
returns-in-Ok-Some-clause-shown g c =
    shown_known (entries_of c.args.entries.now.entries) (file_of c.args.file) c.in-Ok-Some.field-0 c.in-Ok-Some.content c.in-Ok-Some.field-0-is c.in-Ok-Some.ensures.known c.requires

pub returns-in-Ok-keep-clause-some : goal.returns-in-Ok-keep-clause-some
returns-in-Ok-keep-clause-some g c =
    more_some c.args.entries.now.entries (entries_of c.keep.new.entries.entries) c.args.file c.in-Ok.content c.in-Ok-keep.ensures.kept.1
    (unknown_is c.in-Ok-None.field-0 (lookup (same_key c.args.file) c.args.entries.now.entries ≡ None) c.in-Ok-None.field-0-is c.in-Ok-None.ensures.unknown)
    c.requires (c.in-Ok.ensures.found.content.source, c.in-Ok.ensures.found.content.shows)

pub returns-in-Ok-keep-clause-told : goal.returns-in-Ok-keep-clause-told
returns-in-Ok-keep-clause-told g c sources h =
    subst (λ v. Shows v (sources (file_of c.args.file))) (sym c.in-Ok-keep.ensures.kept.0)
    (more_told (entries_of c.args.entries.now.entries) (entries_of c.keep.new.entries.entries) (file_of c.args.file, c.in-Ok.content) c.in-Ok-keep.ensures.kept.1 sources h)

pub returns-in-Ok-keep-clause-steady : goal.returns-in-Ok-keep-clause-steady
returns-in-Ok-keep-clause-steady g c =
    more_steady (entries_of c.args.entries.now.entries) (entries_of c.keep.new.entries.entries) (file_of c.args.file, c.in-Ok.content) c.in-Ok-keep.ensures.kept.1

pub returns-in-Ok-keep-clause-real : goal.returns-in-Ok-keep-clause-real
returns-in-Ok-keep-clause-real g c = record {
  told = c.read_content.ensures.map;
  allowed = λ folder e sources of before.
      more_allowed (entries_of c.args.entries.now.entries) (entries_of c.keep.new.entries.entries) (file_of c.args.file, c.in-Ok.content) c.in-Ok-keep.ensures.kept.1 sources before
      (shown_of c.one_source.ensures folder sources (file_of c.args.file) c.in-Ok.content of
      (subst (λ t. IsFound t c.args.file.is_script c.args.file.path.items c.in-Ok.content) (sym e)
      (subst (λ p. IsFound (g.F.Files.told c.args.files.now) c.args.file.is_script p c.in-Ok.content) c.deref.ensures.value c.in-Ok.ensures.found)));
}
