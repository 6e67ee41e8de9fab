-- Lines are counted once: no line ends in a word, a number, a literal or a directive, and the last bytes of a part decide how its line goes on.
use Rattle.std.proofs.Common.{◌≡◌, ℕ, ◌+◌, ◌-◌, ◌<◌, ◌≤◌, Bool, true, false, cond, List, [], ◌∷◌, ◌++◌, length, get_or, take, drop, arith, sym, ap, refl, ◌∙◌, subst, inl, inr}
use Rattle.std.specs.Prelude.{◌==◌, ◌&&◌, ◌||◌, max, nat_eq}
use Rattle.std.specs.List.{starts_with}
use Rattle.std.proofs.lemmas.Bool.{and_parts, eqb-true, cases_lt}
use Rattle.std.proofs.lemmas.Slice.Eq.{bytes_eq-Decides}
use Rattle.std.proofs.lemmas.List.Recursion.{is_count_by}
use Rattle.std.proofs.lemmas.List.{take_more, drop_more, take-append-drop, append_cancel_right}
use Rattle.po_lex.specs.Bytes.{newlines, is_gap, is_blank}
use Rattle.po_lex.specs.Rows.{goes_on, behind, skip}
use Rattle.po_lex.specs.PartKinds.{part_kind_at, part_kind_of, opening, row_of, closing, lines, signs, longest}
use Rattle.po_lex.specs.Division.{freshly, Stands}
use Rattle.po_lex.specs.declared.effect.Effect.TheVariants as e
use Rattle.po_lex.specs.declared.row.Row.{Row}
use Rattle.po_lex.specs.declared.row.Row.TheVariants as r
use Rattle.po_lex.specs.declared.part_kind.PartKind.{PartKind}
use Rattle.po_lex.specs.declared.part_kind.PartKind.TheVariants as l

freshly_last : (fresh : Bool) (xs : List ℕ) (c : ℕ) → freshly fresh (xs ++ (c ∷ [])) ≡ ((c == 10) || (is_gap c && freshly fresh xs))
freshly_last fresh [] c = refl
freshly_last fresh (x ∷ xs) c = freshly_last ((x == 10) || (is_gap x && fresh)) xs c

-- the last of these bytes, and those before it
pub freshly_at : (fresh : Bool) (text : List ℕ) (end : ℕ) → 0 < end → end ≤ length text →
    freshly fresh (take end text) ≡ ((get_or text (end - 1) 0 == 10) || (is_gap (get_or text (end - 1) 0) && freshly fresh (take (end - 1) text)))
freshly_at fresh text end some within =
    let n : (end - 1) + 1 ≡ end = omega arith in
    let e : take end text ≡ take (end - 1) text ++ (get_or text (end - 1) 0 ∷ []) = ap (λ k. take k text) (sym n) ∙ take_more text (end - 1) 0 (omega arith) in
    ap (freshly fresh) e ∙ freshly_last fresh (take (end - 1) text) (get_or text (end - 1) 0)

-- how many lines end in the bytes, one byte after the other
abbrev ends : List ℕ → ℕ
ends [] = 0
ends (x ∷ xs) = cond (x == 10) (1 + ends xs) (ends xs)

ends_so : (xs : List ℕ) → ends xs ≡ newlines xs
ends_so xs = is_count_by ends (λ c. c == 10) refl (λ x xs. refl) xs

ends-append : (xs ys : List ℕ) → ends (xs ++ ys) ≡ ends xs + ends ys
ends-append [] ys = omega arith
ends-append (x ∷ xs) ys =
    let h = ends-append xs ys in
    elim (x == 10) as (λ b. cond b (1 + ends (xs ++ ys)) (ends (xs ++ ys)) ≡ cond b (1 + ends xs) (ends xs) + ends ys) [
      | true ↦ omega (arith, h)
      | false ↦ h
    ]

ends_other : (c : ℕ) (xs : List ℕ) → (c ≡ 10 → ⊥) → ends (c ∷ xs) ≡ ends xs
ends_other c xs other =
    elim (c == 10) as (λ b. (c == 10) ≡ b → cond b (1 + ends xs) (ends xs) ≡ ends xs) [
      | true ↦ (λ q. absurd (other (eqb-true c 10 q)))
      | false ↦ (λ q. refl)
    ] refl

-- a row that no newline goes on holds none
ends_row : (row : Row) (before : ℕ) (xs : List ℕ) → ((b : ℕ) → goes_on row b 10 ≡ false) → ends xs ≡ ends (skip row before xs)
ends_row row before [] none = refl
ends_row row before (c ∷ cs) none =
    let h = ends_row row (behind row before c) cs none in
    elim (goes_on row before c) as (λ b. goes_on row before c ≡ b → ends (c ∷ cs) ≡ ends (cond b (skip row (behind row before c) cs) (c ∷ cs))) [
      | true ↦ (λ q. ends_other c cs (λ e. let bad : true ≡ false = sym q ∙ ap (goes_on row before) e ∙ none before in absurd (cc)) ∙ h)
      | false ↦ (λ q. refl)
    ] refl

-- no newline begins what isn't a blank
no_newline : (c d : ℕ) → (part_kind_at c d ≡ l.Blank → ⊥) → c ≡ 10 → ⊥
no_newline c d other e = other (rw e refl)

-- a part with one byte before such a row, and with no newline behind it, ends no line
lineless : (kind : Row) (close : List ℕ) (bytes : List ℕ) (end : ℕ) → ((b : ℕ) → goes_on kind b 10 ≡ false) → newlines close ≡ 0 →
    (part_kind_of bytes ≡ l.Blank → ⊥) → 1 ≤ length bytes → skip kind 0 (drop 1 bytes) ≡ close ++ drop end bytes → 0 ≡ newlines (take end bytes)
lineless kind close [] end none closed other some ended = absurd (omega arith)
lineless kind close (c ∷ cs) end none closed other some ended =
    let all : ends (take end (c ∷ cs)) + ends (drop end (c ∷ cs)) ≡ ends (c ∷ cs) =
    sym (ends-append (take end (c ∷ cs)) (drop end (c ∷ cs))) ∙ ap ends (take-append-drop end (c ∷ cs)) in
    let first : ends (c ∷ cs) ≡ ends cs = ends_other c cs (no_newline c (get_or (c ∷ cs) 1 0) other) in
    let rest : ends cs ≡ ends close + ends (drop end (c ∷ cs)) = ends_row kind 0 cs none ∙ ap ends ended ∙ ends-append close (drop end (c ∷ cs)) in
    let none_closed : ends close ≡ 0 = ends_so close ∙ closed in
    let none_in : 0 ≡ ends (take end (c ∷ cs)) = omega (arith, all, first, rest, none_closed) in
    none_in ∙ ends_so (take end (c ∷ cs))

abbrev are_lineless : List (List ℕ) → Bool
are_lineless [] = true
are_lineless (x ∷ xs) = (newlines x == 0) && are_lineless xs

-- the longest of texts in which no line ends ends no line
longest_lineless : (xs : List (List ℕ)) (bytes : List ℕ) → are_lineless xs ≡ true → newlines (take (longest xs bytes) bytes) ≡ 0
longest_lineless [] bytes h = refl
longest_lineless (x ∷ xs) bytes h =
    let n : ℕ = longest xs bytes in
    let rest : newlines (take n bytes) ≡ 0 = longest_lineless xs bytes (and_parts (newlines x == 0) (are_lineless xs) h).1 in
    let this : newlines x ≡ 0 = eqb-true (newlines x) 0 (and_parts (newlines x == 0) (are_lineless xs) h).0 in
    elim (starts_with nat_eq bytes x) as (λ b. starts_with nat_eq bytes x ≡ b → newlines (take (cond b (max (length x) n) n) bytes) ≡ 0) [
      | true ↦ (λ q. let same : x ≡ take (length x) bytes = (bytes_eq-Decides x (take (length x) bytes)).0 q in
          elim (cases_lt (length x) n) as (λ _. newlines (take (max (length x) n) bytes) ≡ 0) [
            | inl k ↦ (let m : max (length x) n ≡ n = omega (arith, k) in rw m rest)
            | inr k ↦ (let m : max (length x) n ≡ length x = omega (arith, k) in rw m (ap newlines (sym same) ∙ this))
          ])
      | false ↦ (λ q. rest)
    ] refl

pub skip_nothing : (xs : List ℕ) → skip r.Nothing 0 xs ≡ xs
skip_nothing [] = refl
skip_nothing (c ∷ cs) = refl

-- no line ends in a punctuator
sign_lines : (bytes : List ℕ) (end : ℕ) → skip r.Nothing 0 (drop (longest signs bytes) bytes) ≡ drop end bytes → 0 ≡ newlines (take end bytes)
sign_lines bytes end ended =
    let o : ℕ = longest signs bytes in
    let same : drop o bytes ≡ drop end bytes = sym (skip_nothing (drop o bytes)) ∙ ended in
    let text : take o bytes ≡ take end bytes =
    append_cancel_right (take o bytes) (take end bytes) (drop end bytes) (ap (λ v. take o bytes ++ v) (sym same) ∙ take-append-drop o bytes ∙ sym (take-append-drop end bytes)) in
    sym (longest_lineless signs bytes refl) ∙ ap newlines text

pub lines_so : (part_kind : PartKind) (bytes : List ℕ) (end : ℕ) → part_kind ≡ part_kind_of bytes → opening part_kind bytes ≤ length bytes →
    skip (row_of part_kind) 0 (drop (opening part_kind bytes) bytes) ≡ closing part_kind ++ drop end bytes → lines part_kind (take end bytes) ≡ newlines (take end bytes)
lines_so l.Word bytes end q within ended = lineless r.Word [] bytes end (λ b. refl) refl (λ e. let bad : l.Word ≡ l.Blank = q ∙ e in absurd (cc)) within ended
lines_so l.Number bytes end q within ended = lineless r.Number [] bytes end (λ b. refl) refl (λ e. let bad : l.Number ≡ l.Blank = q ∙ e in absurd (cc)) within ended
lines_so l.Char bytes end q within ended = lineless (r.Literal 39) (39 ∷ []) bytes end (λ b. refl) refl (λ e. let bad : l.Char ≡ l.Blank = q ∙ e in absurd (cc)) within ended
lines_so l.Str bytes end q within ended = lineless (r.Literal 34) (34 ∷ []) bytes end (λ b. refl) refl (λ e. let bad : l.Str ≡ l.Blank = q ∙ e in absurd (cc)) within ended
lines_so l.Directive bytes end q within ended = lineless r.Line [] bytes end (λ b. refl) refl (λ e. let bad : l.Directive ≡ l.Blank = q ∙ e in absurd (cc)) within ended
lines_so l.Blank bytes end q within ended = refl
lines_so l.Splice bytes end q within ended = refl
lines_so l.Comment bytes end q within ended = refl
lines_so l.LineComment bytes end q within ended = refl
lines_so l.Punctuator bytes end q within ended = sign_lines bytes end ended

-- a blank stands by itself
pub blank_stands : (fresh : Bool) (file : List ℕ) (at : ℕ) → at < length file → is_blank (get_or file at 0) ≡ true →
    Stands fresh (drop at file) (record { part_kind = l.Blank; text = get_or file at 0 ∷ []; effect = e.Silent }) (drop (at + 1) file)
blank_stands fresh file at some h =
    let c : ℕ = get_or file at 0 in
    let cs : List ℕ = drop (at + 1) file in
    subst (λ v. Stands fresh v (record { part_kind = l.Blank; text = c ∷ []; effect = e.Silent }) cs) (sym (drop_more file at 0 some)) (record {
      whole = refl;
      begun = sym (rw h refl);
      some = omega arith;
      within = omega arith;
      ended = skip_nothing cs;
      part_effect = refl;
    })
