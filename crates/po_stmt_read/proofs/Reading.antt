-- What is read behind a start, part by part.
use Rattle.std.proofs.Common.{◌≡◌, ◌∙◌, ◌+◌, ℕ, suc, List, [], ◌∷◌, sym, subst, refl, ap, codes}
use Rattle.std.specs.Prelude.{Option, Some, None}
use Rattle.po_base.specs.declared.token.Token.{Token}
use Rattle.po_tree.specs.declared.expression.Exp.{Exp}
use Rattle.po_tree.specs.declared.statement.Stmt.{Stmt}
use Rattle.po_tree.specs.declared.statement.Stmt.TheVariants as st
use Rattle.po_tree.specs.Signs.{Sign, word}
use Rattle.po_exp_parts.specs.Places.{signs_between, Begins}
use Rattle.po_decl_laws.proofs.Behind.{tails}
use Rattle.po_fun_parts.specs.declared.starts.Start.{Start}
use Rattle.po_fun_parts.specs.Heads.{TestStands}
use Rattle.po_fun_parts.specs.Starting.{StatementStarts, NoStart}
use Rattle.po_fun_parts.proofs.Begun.{each_begun}
use Rattle.po_stmt_laws.specs.Reading.{StatementReads}
use Rattle.po_stmt_laws.specs.Continuing.{BranchReads, alone, another, BranchesRead, RepeatedReads, ReadsOn}
use Rattle.po_stmt_laws.proofs.Once.{no_room, one_statement_read}
use Rattle.po_stmt_laws.proofs.ReadingOn.{reads_both}
use Rattle.po_stmt_read.specs.Reads.{IsRead, ElseReads}

module _ {types : List (List ℕ)} where
  pub without_room : {room : ℕ} {signs left : List Sign} {s : Stmt} → room ≡ 0 → StatementReads types room signs s left → ⊥
  without_room {signs = signs} {left = left} {s = s} q w = no_room (subst (λ n. StatementReads types n signs s left) q w)

  pub without_start : {room : ℕ} {signs left : List Sign} {s : Stmt} → NoStart types signs → StatementReads types room signs s left → ⊥
  without_start none w = let b = each_begun w.stands in none b.0 b.1 b.2

-- what is read behind a start is the statement that begins with it
pub read_started : (types : List (List ℕ)) (room less : ℕ) (tokens : List Token) (at behind to : ℕ) (begun : Start) → room ≡ suc less →
    StatementStarts types (signs_between tokens at to) begun (signs_between tokens behind to) → (found : Option (Stmt × ℕ)) → IsRead (ReadsOn types less begun) tokens behind to found →
    IsRead (StatementReads types room) tokens at to found
read_started types room less tokens at behind to begun q h None none = λ s left w.
    none s left ((reads_both begun h).0 (subst (λ n. StatementReads types n (signs_between tokens at to) s left) q w))
read_started types room less tokens at behind to begun q h (Some p) w =
    subst (λ n. StatementReads types n (signs_between tokens at to) p.0 (signs_between tokens p.1 to)) (sym q) ((reads_both begun h).1 w)

module _ {types : List (List ℕ)} {room : ℕ} where
  -- `if`

  -- no `else` stands behind the first statement
  pub if_alone : {signs between : List Sign} {body : Stmt} {x : Exp} → StatementReads types room signs body between → (Begins (word (codes "else")) between → ⊥) →
      BranchesRead types room x signs (st.If x body None) between
  if_alone {between = between} {body = body} w none = record { body = body; other = None; between = between; whole = refl; reads = w; branch = alone none }

  if_else : {signs between inside left : List Sign} {body s : Stmt} {x : Exp} → StatementReads types room signs body between → between ≡ word (codes "else") ∷ inside → ElseReads types room x body inside s left →
      BranchesRead types room x signs s left
  if_else {between = between} {inside = inside} {left = left} {body = body} w q e =
      record { body = body; other = Some e.other; between = between; whole = e.whole; reads = w; branch = another e.other inside left q e.reads }

  else_behind : {between inside left : List Sign} {body s : Stmt} {x : Exp} {other : Option Stmt} → between ≡ word (codes "else") ∷ inside → s ≡ st.If x body other → BranchReads types room between other left →
      ElseReads types room x body inside s left
  else_behind q r (alone none) = absurd (none (subst (Begins (word (codes "else"))) (sym q) refl))
  else_behind q r (another t behind left p v) = record { other = t; whole = r; reads = subst (λ z. StatementReads types room z t left) (tails (sym p ∙ q)) v }

  else_of : {signs between inside left : List Sign} {body s : Stmt} {x : Exp} → StatementReads types room signs body between → between ≡ word (codes "else") ∷ inside → BranchesRead types room x signs s left →
      ElseReads types room x body inside s left
  else_of {left = left} {x = x} w q b =
      let c = one_statement_read w b.reads in
      else_behind q (b.whole ∙ ap (λ z. st.If x z b.other) (sym c.0)) (subst (λ z. BranchReads types room z b.other left) (sym c.1) b.branch)

  -- `do`

  pub without_test : {signs between left : List Sign} {body s : Stmt} → StatementReads types room signs body between → ((x : Exp) (rest : List Sign) → TestStands types between x rest → ⊥) →
      RepeatedReads types room signs s left → ⊥
  without_test {left = left} w none b =
      let c = one_statement_read w b.reads in
      none b.value left (subst (λ z. TestStands types z b.value left) (sym c.1) b.test)

-- what is answered behind an `else` is the answer of the whole `if`
pub else_answer : (types : List (List ℕ)) (room : ℕ) (tokens : List Token) (at between to : ℕ) (x : Exp) (body : Stmt) → StatementReads types room (signs_between tokens at to) body (signs_between tokens between to) →
    signs_between tokens between to ≡ word (codes "else") ∷ signs_between tokens (between + 1) to → (found : Option (Stmt × ℕ)) → IsRead (ElseReads types room x body) tokens (between + 1) to found →
    IsRead (BranchesRead types room x) tokens at to found
else_answer types room tokens at between to x body w q None none = λ s left b. none s left (else_of w q b)
else_answer types room tokens at between to x body w q (Some p) e = if_else w q e
