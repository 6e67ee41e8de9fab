use Rattle.std.proofs.Common.{[], ◌∷◌, sym, subst, append-nil}
use Rattle.po_lex.specs.Division.{Part}
use Rattle.po_lex.specs.Lexing.{IsKept}
use Rattle.po_lex.specs.declared.part_kind.PartKind.TheVariants as l
use Rattle.po_lex.specs.declared.effect.Effect.TheVariants as e
use Rattle.po_lex.proofs.Fronts.{read_more}
use Rattle.po_lex.proofs.lexing.Lexer.read_blank.Goals as goal

pub returns-clause-read : goal.returns-clause-read
returns-clause-read c = λ name front h.
    let x : Part = record { part_kind = l.Blank; text = c.args.byte ∷ []; effect = e.Silent } in
    read_more name front c.args.self.now _ x c.past_blank-self.ensures (sym (append-nil c.args.self.now.names))
    (λ tokens k. subst (IsKept c.args.self.now.excess c.args.self.now.list) (sym (append-nil tokens)) k) h
