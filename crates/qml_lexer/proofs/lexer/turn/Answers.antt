use Rattle.std.proofs.Common.{◌-◌, sym, arith, subst, refl, rules, length}
use Rattle.qml_lexer.specs.declared.found.Piece.{Piece}
use Rattle.qml_lexer.specs.declared.lexer.Cursor.{Cursor}
use Rattle.qml_lexer.proofs.LeadLemmas.{Ends, shorter, leads_on, stuck}
use Rattle.qml_lexer.proofs.lexer.turn.Goals.{in-Gap, in-Token}
use Rattle.qml_lexer.proofs.lexer.turn.Goals as goal

pub overflow_sub-at : goal.overflow_sub-at
overflow_sub-at c = let s = shorter _ _ _ _ c.args.rest.now c.in-Ok.behind.now c.utf8.rest (search rules) c.in-Ok.ensures in omega arith

pub line_of-line-requires-clause-ordered : goal.line_of-line-requires-clause-ordered
line_of-line-requires-clause-ordered c = let s = shorter _ _ _ _ c.args.rest.now c.in-Ok.behind.now c.utf8.rest (search rules) c.in-Ok.ensures in omega arith

pub returns-after-piece : goal.returns-after-piece
returns-after-piece c =
    let s = shorter _ _ _ _ c.args.rest.now c.in-Ok.behind.now c.utf8.rest (search rules) c.in-Ok.ensures in
    let next : Cursor = record { at = length c.args.body.now - length c.in-Ok.behind.now; token_end = c.match-piece.token_end; line = c.line_of-line.result } in
    let P : Piece → Type 0 = λ z. Ends z c.args.cursor next in
    let ends : Ends c.in-Ok.piece c.args.cursor next = elim c.match-piece.branch [ in-Gap w ↦ subst P (sym w.in-Gap.is) w.token_end-is | in-Token w ↦ subst P (sym w.in-Token.is) w.token_end-is ] in (
      leads_on c.args.body.now c.args.cursor next c.spot.result c.in-Ok.piece c.args.found.now.items c.front.new.found.items c.args.rest.now c.in-Ok.behind.now c.utf8.rest (search rules)
          c.in-Ok.ensures c.spot.ensures c.requires.line c.requires.here (omega arith) ends,
      (rw c.as_bytes.ensures.value at c.line_of-line.ensures),
      omega arith,
      s,
    )

pub returns-in-Err-Bad : goal.returns-in-Err-Bad
returns-in-Err-Bad c =
    (rw (c.place.ensures, c.requires.line.number, c.requires.line.start) refl, stuck c.args.cursor.at c.args.rest.now c.in-Err-Bad.cause c.utf8.rest c.requires.some (rw c.in-Err-Bad.field-0-is at c.in-Err-Bad.ensures))
