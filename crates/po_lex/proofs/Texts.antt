-- The walk over a literal or a comment ends where the standard says.
use Rattle.std.proofs.Common.{◌≡◌, ℕ, ◌+◌, Bool, true, false, cond, List, [], ◌∷◌, ◌++◌, length, drop, arith, sym, ap, refl, ◌∙◌, subst, append_assoc, length-append, ne_eqb}
use Rattle.std.specs.Prelude.{◌≢◌, ◌==◌, ◌&&◌, ◌||◌, not}
use Rattle.std.proofs.lemmas.Bool.{and_parts, eqb-true, eqb-false, eq-eqb, false_from_ne_true}
use Rattle.std.proofs.lemmas.List.{append_cancel_right}
use Rattle.po_lex.specs.Rows.{skip}
use Rattle.po_lex.specs.PartKinds.{opening, row_of, closing}
use Rattle.po_lex.specs.Division.{Part, Stands}
use Rattle.po_lex.specs.Texts.{backslash, Characters, no_character, plain_character, escape, IsLiteral, HasNoEnd, IsComment}
use Rattle.po_lex.specs.declared.row.Row.TheVariants as r
use Rattle.po_lex.specs.declared.part_kind.PartKind.{PartKind}
use Rattle.po_lex.specs.declared.part_kind.PartKind.TheVariants as l
use Rattle.po_lex.specs.declared.effect.Effect.TheVariants as e

-- What a walk over a literal has read when it stops at the quote; behind a backslash one more byte stands before.
abbrev pub Read : Bool → ℕ → List ℕ → List ℕ → Type 0
Read false q xs rest = (chars : List ℕ) × Characters q chars × (xs ≡ chars ++ (q ∷ rest))
Read true q xs rest = (d : ℕ) × (chars : List ℕ) × (d ≢ 10) × Characters q chars × (xs ≡ d ∷ (chars ++ (q ∷ rest)))

stopped : (q c : ℕ) (cs rest : List ℕ) → c ∷ cs ≡ q ∷ rest → Read false q (c ∷ cs) rest
stopped q c cs rest h = ([], no_character q, h)

more_read : (q c : ℕ) (cs rest : List ℕ) → c ≢ 10 → c ≢ q → (b : Bool) → (c == 92) ≡ b → Read b q cs rest → Read false q (c ∷ cs) rest
more_read q c cs rest line other true at h =
    let same : c ≡ 92 = eqb-true c 92 at in
    (backslash ∷ h.0 ∷ h.1, escape q h.0 h.1 h.2 h.3, ap (λ v. v ∷ cs) same ∙ ap (λ v. 92 ∷ v) h.4)
more_read q c cs rest line other false at h = (c ∷ h.0, plain_character q c h.0 other (eqb-false c 92 at) line h.1, ap (λ v. c ∷ v) h.2)

pub literal_read : (q : ℕ) → q ≢ 10 → (before : ℕ) (xs rest : List ℕ) → skip (r.Literal q) before xs ≡ q ∷ rest → Read (before == 92) q xs rest
literal_read q line before [] rest h = absurd (cc)
literal_read q line before (c ∷ cs) rest h =
    let on : (b : ℕ) → skip (r.Literal q) b cs ≡ q ∷ rest → Read (b == 92) q cs rest = λ b. literal_read q line b cs rest in
    elim (before == 92) as (λ b. cond (not (c == 10) && (b || not (c == q))) (skip (r.Literal q) (cond b 0 c) cs) (c ∷ cs) ≡ q ∷ rest → Read b q (c ∷ cs) rest) [
      | true ↦ elim (c == 10) as (λ v. (c == 10) ≡ v → cond (not v && true) (skip (r.Literal q) 0 cs) (c ∷ cs) ≡ q ∷ rest → Read true q (c ∷ cs) rest) [
        | true ↦ (λ at k. let same : c ≡ 10 = eqb-true c 10 at in let first : c ≡ q = cc in absurd (line (sym first ∙ same)))
        | false ↦ (λ at k. let so : Read false q cs rest = on 0 k in (c, so.0, eqb-false c 10 at, so.1, ap (λ v. c ∷ v) so.2))
      ] refl
      | false ↦ elim (c == 10) as (λ v. (c == 10) ≡ v → cond (not v && (false || not (c == q))) (skip (r.Literal q) c cs) (c ∷ cs) ≡ q ∷ rest → Read false q (c ∷ cs) rest) [
        | true ↦ (λ at k. stopped q c cs rest k)
        | false ↦ (λ at. elim (c == q) as (λ v. (c == q) ≡ v → cond (true && (false || not v)) (skip (r.Literal q) c cs) (c ∷ cs) ≡ q ∷ rest → Read false q (c ∷ cs) rest) [
          | true ↦ (λ to k. stopped q c cs rest k)
          | false ↦ (λ to k. more_read q c cs rest (eqb-false c 10 at) (eqb-false c q to) (c == 92) refl (on c k))
        ] refl)
      ] refl
    ] h

pub same_first : (q : ℕ) → (q == q) ≡ true
same_first q = eq-eqb q q refl

-- the walk over characters stops at the quote
pub literal_stops : {q : ℕ} {chars : List ℕ} → q ≢ 92 → (before : ℕ) (rest : List ℕ) → (before == 92) ≡ false → Characters q chars →
    skip (r.Literal q) before (chars ++ (q ∷ rest)) ≡ q ∷ rest
literal_stops other before rest at (no_character q) =
    rw (at, same_first q) (elim (q == 10) as (λ v. cond (not v && false) (skip (r.Literal q) q rest) (q ∷ rest) ≡ q ∷ rest) [ true ↦ refl | false ↦ refl ])
literal_stops other before rest at (plain_character q c cs quote slash line k) =
    let a : (c == 10) ≡ false = ne_eqb c 10 line in
    let b : (c == q) ≡ false = ne_eqb c q quote in
    let d : (c == 92) ≡ false = ne_eqb c 92 slash in
    let on : skip (r.Literal q) c (cs ++ (q ∷ rest)) ≡ q ∷ rest = literal_stops other c rest d k in
    rw (at, a, b) on
literal_stops other before rest at (escape q c cs line k) =
    let a : (c == 10) ≡ false = ne_eqb c 10 line in
    let b : (92 == q) ≡ false = ne_eqb 92 q (λ w. other (sym w)) in
    let on : skip (r.Literal q) 0 (cs ++ (q ∷ rest)) ≡ q ∷ rest = literal_stops other 0 rest refl k in
    rw (at, b, a) on

-- the lines of the table of what two bytes begin
abbrev line_of : Bool → Bool → Bool → Bool → Bool → Bool → Bool → Bool → Bool → PartKind
line_of blank joined comment remark word number char string directive =
    cond blank l.Blank (cond joined l.Splice (cond comment l.Comment (cond remark l.LineComment (cond word l.Word
    (cond number l.Number (cond char l.Char (cond string l.Str (cond directive l.Directive l.Punctuator))))))))

comment_line : (a b c d f g h i j : Bool) → line_of a b c d f g h i j ≡ l.Comment → c ≡ true
comment_line true b c d f g h i j q = absurd (cc)
comment_line false true c d f g h i j q = absurd (cc)
comment_line false false true d f g h i j q = refl
comment_line false false false true f g h i j q = absurd (cc)
comment_line false false false false true g h i j q = absurd (cc)
comment_line false false false false false true h i j q = absurd (cc)
comment_line false false false false false false true i j q = absurd (cc)
comment_line false false false false false false false true j q = absurd (cc)
comment_line false false false false false false false false true q = absurd (cc)
comment_line false false false false false false false false false q = absurd (cc)

char_line : (a b c d f g h i j : Bool) → line_of a b c d f g h i j ≡ l.Char → h ≡ true
char_line true b c d f g h i j q = absurd (cc)
char_line false true c d f g h i j q = absurd (cc)
char_line false false true d f g h i j q = absurd (cc)
char_line false false false true f g h i j q = absurd (cc)
char_line false false false false true g h i j q = absurd (cc)
char_line false false false false false true h i j q = absurd (cc)
char_line false false false false false false true i j q = refl
char_line false false false false false false false true j q = absurd (cc)
char_line false false false false false false false false true q = absurd (cc)
char_line false false false false false false false false false q = absurd (cc)

string_line : (a b c d f g h i j : Bool) → line_of a b c d f g h i j ≡ l.Str → i ≡ true
string_line true b c d f g h i j q = absurd (cc)
string_line false true c d f g h i j q = absurd (cc)
string_line false false true d f g h i j q = absurd (cc)
string_line false false false true f g h i j q = absurd (cc)
string_line false false false false true g h i j q = absurd (cc)
string_line false false false false false true h i j q = absurd (cc)
string_line false false false false false false true i j q = absurd (cc)
string_line false false false false false false false true j q = refl
string_line false false false false false false false false true q = absurd (cc)
string_line false false false false false false false false false q = absurd (cc)

-- the text of a part is what stands before what comes after it
text_so : (bytes text whole rest : List ℕ) → bytes ≡ text ++ rest → bytes ≡ whole ++ rest → text ≡ whole
text_so bytes text whole rest p q = append_cancel_right text whole rest (sym p ∙ q)

quoted : (q : ℕ) (cs text rest : List ℕ) → q ≢ 10 → q ∷ cs ≡ text ++ rest → skip (r.Literal q) 0 cs ≡ q ∷ rest → IsLiteral q text
quoted q cs text rest line whole ended =
    let so : Read false q cs rest = literal_read q line 0 cs rest ended in
    let all : q ∷ cs ≡ (q ∷ (so.0 ++ (q ∷ []))) ++ rest = ap (λ v. q ∷ v) (so.2 ∙ sym (append_assoc so.0 (q ∷ []) rest)) in
    (so.0, so.1, text_so (q ∷ cs) text (q ∷ (so.0 ++ (q ∷ []))) rest whole all)

pub no_line : (q : ℕ) → (q == 10) ≡ false → q ≢ 10
no_line q h = eqb-false q 10 h

pub string_literal : (fresh : Bool) (bytes : List ℕ) (x : Part) (rest : List ℕ) → Stands fresh bytes x rest → x.part_kind ≡ l.Str → IsLiteral 34 x.text
string_literal fresh [] x rest h q = let bad : l.Punctuator ≡ l.Str = sym h.begun ∙ q in absurd (cc)
string_literal fresh (c ∷ cs) x rest h q =
    let first : (c == 34) ≡ true = string_line _ _ _ _ _ _ _ (c == 34) _ (sym h.begun ∙ q) in
    let same : c ≡ 34 = eqb-true c 34 first in
    let ended : skip (r.Literal 34) 0 cs ≡ 34 ∷ rest = subst (λ v. skip (row_of v) 0 (drop (opening v (c ∷ cs)) (c ∷ cs)) ≡ closing v ++ rest) q h.ended in
    quoted 34 cs x.text rest (no_line 34 refl) (ap (λ v. v ∷ cs) (sym same) ∙ h.whole) ended

pub character_literal : (fresh : Bool) (bytes : List ℕ) (x : Part) (rest : List ℕ) → Stands fresh bytes x rest → x.part_kind ≡ l.Char → IsLiteral 39 x.text
character_literal fresh [] x rest h q = let bad : l.Punctuator ≡ l.Char = sym h.begun ∙ q in absurd (cc)
character_literal fresh (c ∷ cs) x rest h q =
    let first : (c == 39) ≡ true = char_line _ _ _ _ _ _ (c == 39) _ _ (sym h.begun ∙ q) in
    let same : c ≡ 39 = eqb-true c 39 first in
    let ended : skip (r.Literal 39) 0 cs ≡ 39 ∷ rest = subst (λ v. skip (row_of v) 0 (drop (opening v (c ∷ cs)) (c ∷ cs)) ≡ closing v ++ rest) q h.ended in
    quoted 39 cs x.text rest (no_line 39 refl) (ap (λ v. v ∷ cs) (sym same) ∙ h.whole) ended

abbrev literal : ℕ → List ℕ → List ℕ
literal q chars = q ∷ (chars ++ (q ∷ []))

pub string_stands : (fresh : Bool) (text rest : List ℕ) → IsLiteral 34 text → Stands fresh (text ++ rest) (record { part_kind = l.Str; text = text; effect = e.Silent }) rest
string_stands fresh text rest h =
    let chars : List ℕ = h.0 in
    let all : literal 34 chars ++ rest ≡ 34 ∷ (chars ++ (34 ∷ rest)) = ap (λ v. 34 ∷ v) (append_assoc chars (34 ∷ []) rest) in
    let there : Stands fresh (34 ∷ (chars ++ (34 ∷ rest))) (record { part_kind = l.Str; text = literal 34 chars; effect = e.Silent }) rest = record {
      whole = sym all;
      begun = refl;
      some = omega arith;
      within = omega arith;
      ended = literal_stops (λ q. let bad : (34 == 92) ≡ true = ap (λ v. v == 92) q in absurd (cc)) 0 rest refl h.1;
      part_effect = refl;
    } in
    subst (λ v. Stands fresh (v ++ rest) (record { part_kind = l.Str; text = v; effect = e.Silent }) rest) (sym h.2)
    (subst (λ v. Stands fresh v (record { part_kind = l.Str; text = literal 34 chars; effect = e.Silent }) rest) (sym all) there)

pub character_stands : (fresh : Bool) (text rest : List ℕ) → IsLiteral 39 text → Stands fresh (text ++ rest) (record { part_kind = l.Char; text = text; effect = e.Silent }) rest
character_stands fresh text rest h =
    let chars : List ℕ = h.0 in
    let all : literal 39 chars ++ rest ≡ 39 ∷ (chars ++ (39 ∷ rest)) = ap (λ v. 39 ∷ v) (append_assoc chars (39 ∷ []) rest) in
    let there : Stands fresh (39 ∷ (chars ++ (39 ∷ rest))) (record { part_kind = l.Char; text = literal 39 chars; effect = e.Silent }) rest = record {
      whole = sym all;
      begun = refl;
      some = omega arith;
      within = omega arith;
      ended = literal_stops (λ q. let bad : (39 == 92) ≡ true = ap (λ v. v == 92) q in absurd (cc)) 0 rest refl h.1;
      part_effect = refl;
    } in
    subst (λ v. Stands fresh (v ++ rest) (record { part_kind = l.Char; text = v; effect = e.Silent }) rest) (sym h.2)
    (subst (λ v. Stands fresh v (record { part_kind = l.Char; text = literal 39 chars; effect = e.Silent }) rest) (sym all) there)

-- two bytes that a test tells apart
apart : (a b : ℕ) → (a == b) ≡ false → a ≡ b → ⊥
apart a b h = eqb-false a b h

one_end : HasNoEnd (42 ∷ [])
one_end before after q = let n : 1 ≡ length before + length (42 ∷ 47 ∷ after) = ap length q ∙ length-append before (42 ∷ 47 ∷ after) in omega (arith, n)

-- where the first byte isn't the one of `*/`, the bytes behind it don't begin with the other
second_byte : (c : ℕ) (cs mid rest after : List ℕ) → c ∷ cs ≡ mid ++ (42 ∷ 47 ∷ rest) → mid ++ (42 ∷ []) ≡ 47 ∷ after → c ≡ 47
second_byte c cs [] rest after p t =
    let e : 42 ≡ 47 = cc in absurd (apart 42 47 refl e)
second_byte c cs (m ∷ ms) rest after p t =
    let a : c ≡ m = cc in
    let b : m ≡ 47 = cc in a ∙ b

longer : (before c : ℕ) (cs mid rest : List ℕ) → ((before == 42) && (c == 47)) ≡ false → c ∷ cs ≡ mid ++ (42 ∷ 47 ∷ rest) → HasNoEnd (mid ++ (42 ∷ [])) →
    HasNoEnd (before ∷ (mid ++ (42 ∷ [])))
longer before c cs mid rest other parts none [] after q =
    let star : before ≡ 42 = cc in
    let tail : mid ++ (42 ∷ []) ≡ 47 ∷ after = cc in
    let a : (before == 42) ≡ true = eq-eqb before 42 star in
    let b : (c == 47) ≡ true = eq-eqb c 47 (second_byte c cs mid rest after parts tail) in
    let yes : ((before == 42) && (c == 47)) ≡ true = rw (a, b) refl in
    let bad : true ≡ false = sym yes ∙ other in absurd (cc)
longer before c cs mid rest other parts none (x ∷ xs) after q = none xs after (cc)

-- What a walk over a comment has read when it stops at the `/` of its `*/`; one byte stands before it.
comment_read : (before : ℕ) (xs rest : List ℕ) → skip r.Comment before xs ≡ 47 ∷ rest →
    (mid : List ℕ) × (before ∷ xs ≡ mid ++ (42 ∷ 47 ∷ rest)) × HasNoEnd (mid ++ (42 ∷ []))
comment_read before [] rest h = absurd (cc)
comment_read before (c ∷ cs) rest h =
    elim ((before == 42) && (c == 47)) as (λ b. ((before == 42) && (c == 47)) ≡ b → cond (not b) (skip r.Comment c cs) (c ∷ cs) ≡ 47 ∷ rest →
    (mid : List ℕ) × (before ∷ (c ∷ cs) ≡ mid ++ (42 ∷ 47 ∷ rest)) × HasNoEnd (mid ++ (42 ∷ []))) [
      | true ↦ (λ q k. let star : before ≡ 42 = eqb-true before 42 (and_parts (before == 42) (c == 47) q).0 in
          ([], ap (λ v. v ∷ (c ∷ cs)) star ∙ ap (λ v. 42 ∷ v) k, one_end))
      | false ↦ (λ q k. let so = comment_read c cs rest k in (before ∷ so.0, ap (λ v. before ∷ v) so.1, longer before c cs so.0 rest q so.1 so.2))
    ] refl h

not_empty : (xs ys : List ℕ) (y : ℕ) → [] ≡ xs ++ (y ∷ ys) → ⊥
not_empty [] ys y q = absurd (cc)
not_empty (x ∷ xs) ys y q = absurd (cc)

begins_end : (mid : List ℕ) (c : ℕ) (cs rest : List ℕ) → c ∷ cs ≡ mid ++ (42 ∷ 47 ∷ rest) → c ≡ 47 → (after : List ℕ) × (mid ++ (42 ∷ []) ≡ 47 ∷ after)
begins_end [] c cs rest p q =
    let e : c ≡ 42 = cc in absurd (apart 42 47 refl (sym e ∙ q))
begins_end (m ∷ ms) c cs rest p q =
    let e : m ≡ c = cc in (ms ++ (42 ∷ []), ap (λ v. v ∷ (ms ++ (42 ∷ []))) (e ∙ q))

-- the walk stops at the first `*/`
comment_stops : (mid : List ℕ) (before : ℕ) (xs rest : List ℕ) → before ∷ xs ≡ mid ++ (42 ∷ 47 ∷ rest) → HasNoEnd (mid ++ (42 ∷ [])) →
    skip r.Comment before xs ≡ 47 ∷ rest
comment_stops [] before xs rest parts none =
    let star : before ≡ 42 = cc in
    let all : xs ≡ 47 ∷ rest = cc in rw (star, all) refl
comment_stops (m ∷ ms) before [] rest parts none =
    let left : [] ≡ ms ++ (42 ∷ 47 ∷ rest) = cc in absurd (not_empty ms (47 ∷ rest) 42 left)
comment_stops (m ∷ ms) before (c ∷ cs) rest parts none =
    let first : m ≡ before = cc in
    let left : c ∷ cs ≡ ms ++ (42 ∷ 47 ∷ rest) = cc in
    let on : skip r.Comment c cs ≡ 47 ∷ rest = comment_stops ms c cs rest left (λ a b q. none (m ∷ a) b (ap (λ v. m ∷ v) q)) in
    let other : ((before == 42) && (c == 47)) ≡ false =
    false_from_ne_true ((before == 42) && (c == 47)) (λ t. let found = and_parts (before == 42) (c == 47) t in
    let end = begins_end ms c cs rest left (eqb-true c 47 found.1) in
    none [] end.0 (ap (λ v. v ∷ (ms ++ (42 ∷ []))) (first ∙ eqb-true before 42 found.0) ∙ ap (λ v. 42 ∷ v) end.1)) in
    rw other on

-- a byte before that isn't `*` changes nothing
no_end_behind : (body : List ℕ) → HasNoEnd (body ++ (42 ∷ [])) → HasNoEnd (0 ∷ (body ++ (42 ∷ [])))
no_end_behind body none [] after q =
    let e : 0 ≡ 42 = cc in absurd (apart 0 42 refl e)
no_end_behind body none (x ∷ xs) after q = none xs after (cc)

comment_body : (mid cs rest : List ℕ) → 0 ∷ cs ≡ mid ++ (42 ∷ 47 ∷ rest) → HasNoEnd (mid ++ (42 ∷ [])) →
    (body : List ℕ) × (cs ≡ body ++ (42 ∷ 47 ∷ rest)) × HasNoEnd (body ++ (42 ∷ []))
comment_body [] cs rest parts none =
    let e : 0 ≡ 42 = cc in absurd (apart 0 42 refl e)
comment_body (m ∷ body) cs rest parts none = (body, cc, λ a b q. none (m ∷ a) b (ap (λ v. m ∷ v) q))

abbrev comment : List ℕ → List ℕ
comment body = 47 ∷ 42 ∷ (body ++ (42 ∷ 47 ∷ []))

comment_parts : (body rest : List ℕ) → comment body ++ rest ≡ 47 ∷ 42 ∷ (body ++ (42 ∷ 47 ∷ rest))
comment_parts body rest = ap (λ v. 47 ∷ 42 ∷ v) (append_assoc body (42 ∷ 47 ∷ []) rest)

pub comment_text : (fresh : Bool) (bytes : List ℕ) (x : Part) (rest : List ℕ) → Stands fresh bytes x rest → x.part_kind ≡ l.Comment → IsComment x.text
comment_text fresh [] x rest h q = let bad : l.Punctuator ≡ l.Comment = sym h.begun ∙ q in absurd (cc)
comment_text fresh (c ∷ []) x rest h q =
    let first : ((c == 47) && (0 == 42)) ≡ true = comment_line _ _ ((c == 47) && (0 == 42)) _ _ _ _ _ _ (sym h.begun ∙ q) in
    let second : (0 == 42) ≡ true = (and_parts (c == 47) (0 == 42) first).1 in absurd (cc)
comment_text fresh (c ∷ d ∷ cs) x rest h q =
    let first : ((c == 47) && (d == 42)) ≡ true = comment_line _ _ ((c == 47) && (d == 42)) _ _ _ _ _ _ (sym h.begun ∙ q) in
    let both = and_parts (c == 47) (d == 42) first in
    let slash : c ≡ 47 = eqb-true c 47 both.0 in
    let star : d ≡ 42 = eqb-true d 42 both.1 in
    let ended : skip r.Comment 0 cs ≡ 47 ∷ rest = subst (λ v. skip (row_of v) 0 (drop (opening v (c ∷ d ∷ cs)) (c ∷ d ∷ cs)) ≡ closing v ++ rest) q h.ended in
    let so = comment_read 0 cs rest ended in
    let body = comment_body so.0 cs rest so.1 so.2 in
    let all : c ∷ d ∷ cs ≡ comment body.0 ++ rest =
    ap (λ v. v ∷ d ∷ cs) slash ∙ ap (λ v. 47 ∷ v ∷ cs) star ∙ ap (λ v. 47 ∷ 42 ∷ v) body.1 ∙ sym (comment_parts body.0 rest) in
    (body.0, text_so (c ∷ d ∷ cs) x.text (comment body.0) rest h.whole all, body.2)

pub comment_stands : (fresh : Bool) (text rest : List ℕ) → IsComment text → Stands fresh (text ++ rest) (record { part_kind = l.Comment; text = text; effect = e.Silent }) rest
comment_stands fresh text rest h =
    let body : List ℕ = h.0 in
    let there : Stands fresh (47 ∷ 42 ∷ (body ++ (42 ∷ 47 ∷ rest))) (record { part_kind = l.Comment; text = comment body; effect = e.Silent }) rest = record {
      whole = sym (comment_parts body rest);
      begun = refl;
      some = omega arith;
      within = omega arith;
      ended = comment_stops (0 ∷ body) 0 (body ++ (42 ∷ 47 ∷ rest)) rest refl (no_end_behind body h.2);
      part_effect = refl;
    } in
    subst (λ v. Stands fresh (v ++ rest) (record { part_kind = l.Comment; text = v; effect = e.Silent }) rest) (sym h.1)
    (subst (λ v. Stands fresh v (record { part_kind = l.Comment; text = comment body; effect = e.Silent }) rest) (sym (comment_parts body rest)) there)
