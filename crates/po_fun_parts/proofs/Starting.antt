-- What begins with a keyword, with another word and with another sign.
use Rattle.std.proofs.Common.{◌≡◌, ◌∙◌, ℕ, List, [], ◌∷◌, ◌++◌, Bool, true, false, refl, sym, ap, subst, true≢false}
use Rattle.po_base.specs.declared.token.TokenKind.TheVariants as k
use Rattle.po_tree.specs.declared.expression.Exp.{Exp}
use Rattle.po_tree.specs.declared.statement.Stmt.TheVariants as st
use Rattle.po_tree.specs.Signs.{Sign, word, brace, semicolon, colon}
use Rattle.po_tree.specs.Words.{IsName}
use Rattle.po_exp_parts.specs.Places.{Begins, BeginsWord}
use Rattle.po_exp_parts.proofs.SameSigns.{same_word}
use Rattle.po_exp_read.specs.Longest.{StandsBefore}
use Rattle.po_fun_laws.proofs.FirstSigns.{Kind, by_if, by_while, by_do, by_for, by_switch, by_case, by_default, by_label, by_goto, by_break, by_continue, by_return, otherwise, kind_first, label_kind, expression_kind}
use Rattle.po_fun_laws.proofs.OneExpression.{formed_reads}
use Rattle.po_fun_laws.proofs.Rules.{no_colon}
use Rattle.po_fun_parts.specs.declared.keywords.Keyword.{Keyword}
use Rattle.po_fun_parts.specs.declared.keywords.Keyword.TheVariants as keyword
use Rattle.po_fun_parts.specs.declared.starts.Start.{Start}
use Rattle.po_fun_parts.specs.declared.starts.Start.TheVariants as start
use Rattle.po_fun_parts.specs.Keywords.{spelling}
use Rattle.po_fun_parts.specs.Starting.{StartsBehind, StatementStarts, block, empty, expression, label, by_keyword, NoStart, NoExpression}

-- keywords tell the rules of statements

abbrev pub keyword_kind : Keyword → Kind
keyword_kind keyword.If = by_if
keyword_kind keyword.While = by_while
keyword_kind keyword.Do = by_do
keyword_kind keyword.For = by_for
keyword_kind keyword.Switch = by_switch
keyword_kind keyword.Case = by_case
keyword_kind keyword.Default = by_default
keyword_kind keyword.Goto = by_goto
keyword_kind keyword.Break = by_break
keyword_kind keyword.Continue = by_continue
keyword_kind keyword.Return = by_return

pub first_kind : (w : Keyword) (ts : List Sign) → kind_first (word (spelling w) ∷ ts) ≡ keyword_kind w
first_kind keyword.If ts = refl
first_kind keyword.While ts = refl
first_kind keyword.Do ts = refl
first_kind keyword.For ts = refl
first_kind keyword.Switch ts = refl
first_kind keyword.Case ts = refl
first_kind keyword.Default ts = refl
first_kind keyword.Goto ts = refl
first_kind keyword.Break ts = refl
first_kind keyword.Continue ts = refl
first_kind keyword.Return ts = refl

abbrev keyword_of_kind : Kind → Keyword
keyword_of_kind by_while = keyword.While
keyword_of_kind by_do = keyword.Do
keyword_of_kind by_for = keyword.For
keyword_of_kind by_switch = keyword.Switch
keyword_of_kind by_case = keyword.Case
keyword_of_kind by_default = keyword.Default
keyword_of_kind by_goto = keyword.Goto
keyword_of_kind by_break = keyword.Break
keyword_of_kind by_continue = keyword.Continue
keyword_of_kind by_return = keyword.Return
keyword_of_kind _ = keyword.If

kind_back : (w : Keyword) → keyword_of_kind (keyword_kind w) ≡ w
kind_back keyword.If = refl
kind_back keyword.While = refl
kind_back keyword.Do = refl
kind_back keyword.For = refl
kind_back keyword.Switch = refl
kind_back keyword.Case = refl
kind_back keyword.Default = refl
kind_back keyword.Goto = refl
kind_back keyword.Break = refl
kind_back keyword.Continue = refl
kind_back keyword.Return = refl

same_spelling : (w v : Keyword) → spelling w ≡ spelling v → w ≡ v
same_spelling w v q =
    sym (kind_back w) ∙ ap keyword_of_kind (sym (first_kind w []) ∙ ap (λ text. kind_first (word text ∷ [])) q ∙ first_kind v []) ∙ kind_back v

-- neither an expression nor a label
abbrev pub has_keyword : Kind → Bool
has_keyword by_label = false
has_keyword otherwise = false
has_keyword _ = true

kept : (w : Keyword) → has_keyword (keyword_kind w) ≡ true
kept keyword.If = refl
kept keyword.While = refl
kept keyword.Do = refl
kept keyword.For = refl
kept keyword.Switch = refl
kept keyword.Case = refl
kept keyword.Default = refl
kept keyword.Goto = refl
kept keyword.Break = refl
kept keyword.Continue = refl
kept keyword.Return = refl

pub other_kind : {ts us : List Sign} (w : Keyword) → ts ≡ word (spelling w) ∷ us → has_keyword (kind_first ts) ≡ false → ⊥
other_kind {us = us} w q h = true≢false (sym (kept w) ∙ ap has_keyword (sym (first_kind w us) ∙ ap kind_first (sym q)) ∙ h)

-- an expression with a semicolon behind it
pub value_kind : {types : List (List ℕ)} {signs us : List Sign} {x : Exp} → StandsBefore types signs x (semicolon ∷ us) → kind_first signs ≡ otherwise
value_kind {us = us} w = ap kind_first w.printed ∙ expression_kind (formed_reads (semicolon ∷ us) w.formed.formed) (no_colon us)

pub no_word : {text : List ℕ} {sign : Sign} {ts us : List Sign} → sign.kind ≡ k.Punct → sign ∷ ts ≡ word text ∷ us → ⊥
no_word {text = text} {sign = sign} h q = let heads : sign ≡ word text = cc in let kinds : k.Punct ≡ k.Word = sym h ∙ ap (λ v. v.kind) heads in cc

behind_along : (types : List (List ℕ)) (begun : Start) (left : List Sign) {ts us : List Sign} {w v : Keyword} → w ≡ v → ts ≡ us → StartsBehind w types ts begun left → StartsBehind v types us begun left
behind_along types begun left {us = us} {w = w} q r h =
    subst (λ z. StartsBehind z types us begun left) q (subst (λ z. StartsBehind w types z begun left) r h)

-- behind a keyword stands what begins with it
pub keyword_behind : {types : List (List ℕ)} {signs ts left : List Sign} {begun : Start} (w : Keyword) → signs ≡ word (spelling w) ∷ ts → StatementStarts types signs begun left →
    StartsBehind w types ts begun left
keyword_behind w q (block left) = absurd (no_word refl q)
keyword_behind w q (empty left) = absurd (no_word refl q)
keyword_behind w q (expression x signs left at) = absurd (other_kind w q (ap has_keyword (value_kind at)))
keyword_behind w q (label name left is) = absurd (other_kind w q (ap has_keyword (label_kind left is)))
keyword_behind {types = types} w q (by_keyword v us begun left h) = let c = same_word q in behind_along types begun left (same_spelling v w c.0) c.1 h

-- any other word begins a label or an expression
pub no_word_start : {types : List (List ℕ)} {signs ts : List Sign} {text : List ℕ} → signs ≡ word text ∷ ts → ((w : Keyword) → text ≡ spelling w → ⊥) → (IsName text × Begins colon ts → ⊥) →
    NoExpression types signs → NoStart types signs
no_word_start q other plain none begun left (block left') = no_word refl q
no_word_start q other plain none begun left (empty left') = no_word refl q
no_word_start q other plain none begun left (expression x signs left' at) = none x left' at
no_word_start q other plain none begun left (label name left' is) = let c = same_word q in plain (subst IsName c.0 is, subst (Begins colon) c.1 refl)
no_word_start q other plain none begun left (by_keyword v us begun' left' h) = other v (sym (same_word q).0)

-- any other sign an expression
pub no_other_start : {types : List (List ℕ)} {signs : List Sign} → (Begins brace signs → ⊥) → (Begins semicolon signs → ⊥) → (BeginsWord signs → ⊥) → NoExpression types signs → NoStart types signs
no_other_start braces semicolons words none begun left (block left') = braces refl
no_other_start braces semicolons words none begun left (empty left') = semicolons refl
no_other_start braces semicolons words none begun left (expression x signs left' at) = none x left' at
no_other_start braces semicolons words none begun left (label name left' is) = words refl
no_other_start braces semicolons words none begun left (by_keyword v us begun' left' h) = words refl

-- where these signs are those of a start, it stands

starts_along : {types : List (List ℕ)} {signs other left : List Sign} {begun : Start} → signs ≡ other → StatementStarts types other begun left → StatementStarts types signs begun left
starts_along {types = types} {left = left} {begun = begun} q w = subst (λ z. StatementStarts types z begun left) (sym q) w

pub block_starts : {types : List (List ℕ)} {signs : List Sign} (left : List Sign) → signs ≡ brace ∷ left → StatementStarts types signs start.Block left
block_starts left q = starts_along q (block left)

pub empty_starts : {types : List (List ℕ)} {signs : List Sign} (left : List Sign) → signs ≡ semicolon ∷ left → StatementStarts types signs (start.Whole st.Empty) left
empty_starts left q = starts_along q (empty left)

pub label_starts : {types : List (List ℕ)} {signs ts left : List Sign} {name : List ℕ} → signs ≡ word name ∷ ts → ts ≡ colon ∷ left → IsName name →
    StatementStarts types signs (start.Label name) left
label_starts {left = left} {name = name} q r is = starts_along (q ∙ ap (λ z. word name ∷ z) r) (label name left is)

pub keyword_starts : {types : List (List ℕ)} {signs ts left : List Sign} {begun : Start} (w : Keyword) → signs ≡ word (spelling w) ∷ ts → StartsBehind w types ts begun left →
    StatementStarts types signs begun left
keyword_starts w q h = starts_along q (by_keyword w _ _ _ h)
