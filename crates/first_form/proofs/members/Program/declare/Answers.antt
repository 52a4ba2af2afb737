use Rattle.std.proofs.Common.{◌≡◌, ◌∙◌, ap, ℕ, List, [], ◌∷◌, ◌++◌, map, None}
use Rattle.std.specs.declared.alloc.Global.{Global}
use Rattle.std.specs.declared.vec.Vec.{Vec}
use Rattle.std.specs.Str.{bytes_eq}
use Rattle.indexmap.proofs.CallerLemmas.{insert_entry-new}
use Rattle.first_form.specs.declared.members.Member.{Member}
use Rattle.first_form.specs.Document.{names_of}
use Rattle.first_form.specs.Names.{cell_of}
use Rattle.first_form.specs.Members.{member_from}
use Rattle.first_form.proofs.MapLemmas.{absent, map-snoc}
use Rattle.first_form.proofs.members.Program.declare.Goals as goal

pub returns : goal.returns
returns c =
    let new : cell_of (names_of (map member_from c.self.inside.members.entries)) c.args.name.items ≡ None =
    ap (λ (members : List Member). cell_of (names_of members) c.args.name.items) c.self.view_is ∙ c.requires.new in
    ap (map member_from) (c.in_ok-insert.ensures.entries
    ∙ insert_entry-new (λ (a b : Vec ℕ Global). bytes_eq a.items b.items) c.self.inside.members c.args.name c.args.content (absent c.self.inside.members.entries c.args.name.items new))
    ∙ map-snoc c.self.inside.members.entries (c.args.name, c.args.content)
    ∙ ap (λ (members : List Member). members ++ record { name = c.args.name.items; content = c.args.content } ∷ []) c.self.view_is
