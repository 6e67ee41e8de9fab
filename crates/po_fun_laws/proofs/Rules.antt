-- A statement consists of what the rule asks that its first signs tell.
use Rattle.std.proofs.Common.{◌≡◌, ◌∙◌, ℕ, List, [], ◌∷◌, ◌++◌, false, refl, sym, ap, subst, arith, codes}
use Rattle.std.specs.Prelude.{Option, Some, None}
use Rattle.po_base.specs.declared.token.TokenKind.TheVariants as k
use Rattle.po_tree.specs.declared.expression.Exp.{Exp}
use Rattle.po_tree.specs.declared.declaration.Decl.{Decl}
use Rattle.po_tree.specs.declared.statement.First.{First}
use Rattle.po_tree.specs.declared.statement.Stmt.{Stmt}
use Rattle.po_tree.specs.declared.statement.Stmt.TheVariants as st
use Rattle.po_tree.specs.Signs.{Sign, word, semicolon, colon}
use Rattle.po_tree.specs.Printing.{flat_stmt, flat_decl}
use Rattle.po_tree.specs.Expressions.{Formed}
use Rattle.po_tree.specs.Declarations.{Declared}
use Rattle.po_tree.specs.Statements as s
use Rattle.po_tree.specs.Statements.{takes_else, IsOptional, IsFirst, IsStatement, AreItems}
use Rattle.po_exp_parts.specs.Places.{Begins}
use Rattle.po_decl_laws.proofs.Behind.{first_byte}
use Rattle.po_fun_laws.proofs.Layers.{items_behind, items_next, block_before, declare_before, expression_before, empty_before, if_before, while_before, do_before, for_before, switch_before, case_before, default_before, label_before, goto_before, break_before, continue_before, return_before}
use Rattle.po_fun_laws.proofs.FirstSigns.{Kind, by_brace, by_semicolon, by_if, by_while, by_do, by_for, by_switch, by_case, by_default, by_label, by_goto, by_break, by_continue, by_return, by_end, otherwise, kind_first, label_kind, expression_kind, BeginsDeclaration, begins_kind, declared_begins, expression_apart}
use Rattle.po_fun_laws.proofs.OneExpression.{formed_reads}

abbrev pub kind_of : {types : List (List ℕ)} {x : Stmt} → IsStatement types x → Kind
kind_of (s.block types xs w) = by_brace
kind_of (s.expression types m x w) = otherwise
kind_of (s.empty types) = by_semicolon
kind_of (s.if_alone types m x y v w) = by_if
kind_of (s.if_else types m x y z u v ends w) = by_if
kind_of (s.while types m x y v w) = by_while
kind_of (s.do_while types m x y v w) = by_do
kind_of (s.for_each types inner first test step y u v w z) = by_for
kind_of (s.switch types m x y v w) = by_switch
kind_of (s.case types m x y low v w) = by_case
kind_of (s.default types y w) = by_default
kind_of (s.label types name y is w) = by_label
kind_of (s.goto types name is) = by_goto
kind_of (s.break types) = by_break
kind_of (s.continue types) = by_continue
kind_of (s.return types x w) = by_return

pub no_colon : (us : List Sign) → Begins colon (semicolon ∷ us) → ⊥
no_colon us q = omega (arith, ap (λ v. first_byte (v ∷ [])) q)

-- the first signs of a statement tell its rule
pub statement_kind : {types : List (List ℕ)} {x : Stmt} (us : List Sign) → (w : IsStatement types x) → kind_first (flat_stmt x ++ us) ≡ kind_of w
statement_kind us (s.block types xs w) = ap kind_first (block_before xs us)
statement_kind us (s.expression types m x w) = ap kind_first (expression_before x us) ∙ expression_kind (formed_reads (semicolon ∷ us) w) (no_colon us)
statement_kind us (s.empty types) = ap kind_first (empty_before us)
statement_kind us (s.if_alone types m x y v w) = ap kind_first (if_before x y None us)
statement_kind us (s.if_else types m x y z u v ends w) = ap kind_first (if_before x y (Some z) us)
statement_kind us (s.while types m x y v w) = ap kind_first (while_before x y us)
statement_kind us (s.do_while types m x y v w) = ap kind_first (do_before y x us)
statement_kind us (s.for_each types inner first test step y u v w z) = ap kind_first (for_before first test step y us)
statement_kind us (s.switch types m x y v w) = ap kind_first (switch_before x y us)
statement_kind us (s.case types m x y low v w) = ap kind_first (case_before x y us)
statement_kind us (s.default types y w) = ap kind_first (default_before y us)
statement_kind us (s.label types name y is w) = ap kind_first (label_before name y us) ∙ label_kind (flat_stmt y ++ us) is
statement_kind us (s.goto types name is) = ap kind_first (goto_before name us)
statement_kind us (s.break types) = ap kind_first (break_before us)
statement_kind us (s.continue types) = ap kind_first (continue_before us)
statement_kind us (s.return types x w) = ap kind_first (return_before x us)

-- an expression and a statement
pub record WithStatement (make : Exp → Stmt → Stmt) (types : List (List ℕ)) (t : Stmt) : Type 0 where
  pub level : ℕ
  pub value : Exp
  pub body : Stmt
  pub parts : t ≡ make value body
  pub formed : Formed types level value
  pub inner : IsStatement types body

-- what stands behind the first statement of an `if`
pub data OtherBranch (types : List (List ℕ)) (first : Stmt) : Option Stmt → Type 0 where
  alone : OtherBranch types first None
  another : (t : Stmt) → takes_else first ≡ false → IsStatement types t → OtherBranch types first (Some t)

pub record IfParts (types : List (List ℕ)) (t : Stmt) : Type 0 where
  pub level : ℕ
  pub value : Exp
  pub body : Stmt
  pub other : Option Stmt
  pub parts : t ≡ st.If value body other
  pub formed : Formed types level value
  pub inner : IsStatement types body
  pub branch : OtherBranch types body other

pub record ForParts (types : List (List ℕ)) (t : Stmt) : Type 0 where
  pub inside : List (List ℕ)
  pub first : First
  pub test : Option Exp
  pub step : Option Exp
  pub body : Stmt
  pub parts : t ≡ st.For first test step body
  pub begins : IsFirst types first inside
  pub tested : IsOptional inside test
  pub stepped : IsOptional inside step
  pub inner : IsStatement inside body

-- what a statement of a kind consists of
abbrev pub Consists : Kind → List (List ℕ) → Stmt → Type 0
Consists by_brace types t = (xs : List Stmt) × (t ≡ st.Block xs) × AreItems types xs
Consists by_semicolon types t = t ≡ st.Empty
Consists by_if types t = IfParts types t
Consists by_while types t = WithStatement st.While types t
Consists by_do types t = WithStatement (λ x y. st.Do y x) types t
Consists by_for types t = ForParts types t
Consists by_switch types t = WithStatement st.Switch types t
Consists by_case types t = WithStatement st.Case types t
Consists by_default types t = (y : Stmt) × (t ≡ st.Default y) × IsStatement types y
Consists by_label types t = (name : List ℕ) × (y : Stmt) × (t ≡ st.Label name y) × IsStatement types y
Consists by_goto types t = (name : List ℕ) × (t ≡ st.Goto name)
Consists by_break types t = t ≡ st.Break
Consists by_continue types t = t ≡ st.Continue
Consists by_return types t = (x : Option Exp) × (t ≡ st.Return x) × IsOptional types x
Consists by_end types t = ⊥
Consists otherwise types t = (m : ℕ) × (x : Exp) × (t ≡ st.ExpS x) × Formed types m x

consists : {types : List (List ℕ)} {x : Stmt} → (w : IsStatement types x) → Consists (kind_of w) types x
consists (s.block types xs w) = (xs, refl, w)
consists (s.expression types m x w) = (m, x, refl, w)
consists (s.empty types) = refl
consists (s.if_alone types m x y v w) = record { level = m; value = x; body = y; other = None; parts = refl; formed = v; inner = w; branch = alone }
consists (s.if_else types m x y z u v ends w) = record { level = m; value = x; body = y; other = Some z; parts = refl; formed = u; inner = v; branch = another z ends w }
consists (s.while types m x y v w) = record { level = m; value = x; body = y; parts = refl; formed = v; inner = w }
consists (s.do_while types m x y v w) = record { level = m; value = x; body = y; parts = refl; formed = w; inner = v }
consists (s.for_each types inner first test step y u v w z) = record { inside = inner; first = first; test = test; step = step; body = y; parts = refl; begins = u; tested = v; stepped = w; inner = z }
consists (s.switch types m x y v w) = record { level = m; value = x; body = y; parts = refl; formed = v; inner = w }
consists (s.case types m x y low v w) = record { level = m; value = x; body = y; parts = refl; formed = v; inner = w }
consists (s.default types y w) = (y, refl, w)
consists (s.label types name y is w) = (name, y, refl, w)
consists (s.goto types name is) = (name, refl)
consists (s.break types) = refl
consists (s.continue types) = refl
consists (s.return types x w) = (x, refl, w)

-- a statement at the front of signs of a kind
pub consists_there : {types : List (List ℕ)} {t : Stmt} {signs : List Sign} {kind : Kind} (vs : List Sign) → IsStatement types t → signs ≡ flat_stmt t ++ vs → kind_first signs ≡ kind → Consists kind types t
consists_there {types = types} {t = t} vs v q h = subst (λ z. Consists z types t) (sym (statement_kind vs v) ∙ sym (ap kind_first q) ∙ h) (consists v)

-- a statement where another stands
pub consists_again : {types : List (List ℕ)} {x t : Stmt} (us vs : List Sign) → (w : IsStatement types x) → IsStatement types t → flat_stmt x ++ us ≡ flat_stmt t ++ vs → Consists (kind_of w) types t
consists_again us vs w v q = consists_there vs v q (statement_kind us w)

expression_no_declaration : {types behind : List (List ℕ)} {t : Stmt} {d : Decl} (us vs : List Sign) → Consists otherwise types t → Declared types d behind → flat_stmt t ++ us ≡ flat_decl d ++ vs → ⊥
expression_no_declaration {types = types} us vs c v q =
    expression_apart (formed_reads (semicolon ∷ us) c.3)
    (subst (BeginsDeclaration types) (sym q ∙ ap (λ z. flat_stmt z ++ us) c.2 ∙ expression_before c.1 us) (declared_begins vs v))

-- no statement stands where a declaration does
pub statement_no_declaration : {types behind : List (List ℕ)} {t : Stmt} {d : Decl} (us vs : List Sign) → IsStatement types t → Declared types d behind → flat_stmt t ++ us ≡ flat_decl d ++ vs → ⊥
statement_no_declaration us vs w v q = expression_no_declaration us vs (consists_there us w (sym q) (begins_kind (declared_begins vs v))) v q

-- where items are over, or `else` stands, no item begins

pub item_no_end : {types : List (List ℕ)} {t : Stmt} {signs : List Sign} (vs : List Sign) → IsStatement types t → signs ≡ flat_stmt t ++ vs → kind_first signs ≡ by_end → ⊥
item_no_end vs v q h = consists_there vs v q h

pub declaration_no_end : {types behind : List (List ℕ)} {d : Decl} {signs : List Sign} (vs : List Sign) → Declared types d behind → signs ≡ flat_decl d ++ vs → kind_first signs ≡ by_end → ⊥
declaration_no_end vs v q h = let kinds : by_end ≡ otherwise = sym h ∙ ap kind_first q ∙ begins_kind (declared_begins vs v) in cc

else_kind : (ts : List Sign) → Begins (word (codes "else")) ts → kind_first ts ≡ by_end
else_kind [] b = absurd b
else_kind (sign ∷ ts) b = ap (λ v. kind_first (v ∷ ts)) b

-- no `else` stands before an item, nor before the closing brace
pub items_no_else : {types : List (List ℕ)} {xs : List Stmt} (us : List Sign) → AreItems types xs → Begins (word (codes "else")) (items_behind xs us) → ⊥
items_no_else us (s.no_more_items types) b = let kinds : k.Punct ≡ k.Word = ap (λ v. v.kind) b in cc
items_no_else us (s.statement types y rest v w) b = item_no_end (items_behind rest us) v (items_next y rest us) (else_kind _ b)
items_no_else us (s.declaration types types' d rest v w) b =
    declaration_no_end (items_behind rest us) v (items_next (st.Declare d) rest us ∙ declare_before d (items_behind rest us)) (else_kind _ b)
