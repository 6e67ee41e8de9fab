-- The signs read so far, after one more byte or sign.
use Rattle.std.proofs.Common.{◌≡◌, ℕ, ◌+◌, ◌<◌, ◌≤◌, List, [], ◌∷◌, ◌++◌, length, get_or, drop, take, ◌-◌, arith, ap, sym, ◌∙◌, refl, append_assoc, append-nil}
use Rattle.std.specs.Prelude.{◌==◌}
use Rattle.std.proofs.lemmas.List.{drop_more, drop_all, drop-drop, take-append-drop}
use Rattle.std.proofs.lemmas.List.Elements.{All-nil}
use Rattle.std.proofs.lemmas.List.Sums.{count_by-le-length}
use Rattle.po_straight.specs.declared.lexeme.Sign.{Sign}
use Rattle.po_straight.specs.declared.lexeme.Lexeme.{Lexeme}
use Rattle.po_straight.specs.Spelling.{IsBlank, newlines, Spells, nothing, IsSpelling, IsWord, BeginsWithWordByte}
use Rattle.po_straight.specs.Lexing.{Stands, IsFront}
use Rattle.po_straight.proofs.Following.{after_blank, before_blank, after_sign, before_sign, no_sign}

pub front_start : (bytes : List ℕ) → IsFront [] 1 bytes bytes
front_start bytes = record { whole = λ xs h. h; part = λ ys h. (ys, refl, h) }

pub front_blank : (front : List Lexeme) (line at : ℕ) (bytes : List ℕ) → at < length bytes → IsBlank (get_or bytes at 0) →
    IsFront front line (drop at bytes) bytes → IsFront front (line + newlines (get_or bytes at 0 ∷ [])) (drop (at + 1) bytes) bytes
front_blank front line at bytes in' blank h =
    let c : ℕ = get_or bytes at 0 in
    let e : drop at bytes ≡ c ∷ drop (at + 1) bytes = drop_more bytes at 0 in' in
    record {
      whole = λ xs g. h.whole xs (rw e (before_blank c (drop (at + 1) bytes) line xs blank g));
      part = λ ys g. let p = h.part ys g in (p.0, p.1, after_blank c (drop (at + 1) bytes) line p.0 (drop at bytes) blank p.2 e);
    }

pub front_sign : (front grown : List Lexeme) (line : ℕ) (x : Sign) (left rest bytes : List ℕ) → Stands x left rest →
    grown ≡ front ++ (record { sign = x; line = line } ∷ []) → IsFront front line left bytes → IsFront grown line rest bytes
front_sign front grown line x left rest bytes h e f =
    let here : Lexeme = record { sign = x; line = line } in
    let join : (xs : List Lexeme) → grown ++ xs ≡ front ++ (here ∷ xs) = λ xs. rw e (append_assoc front (here ∷ []) xs) in
    record {
      whole = λ xs g. rw (join xs) (f.whole (here ∷ xs) (before_sign x left rest line xs h g));
      part = λ ys g. let p = f.part ys g in
          let q = after_sign x left rest line p.0 h p.2 in
          (q.0, p.1 ∙ ap (λ v. front ++ v) q.1 ∙ sym (join q.0), q.2);
    }

pub front_end : (front : List Lexeme) (line at : ℕ) (bytes : List ℕ) → length bytes ≤ at → IsFront front line (drop at bytes) bytes → Spells 1 front bytes
front_end front line at bytes over f =
    let e : drop at bytes ≡ [] = drop_all at bytes over in
    rw append-nil at (f.whole [] (rw e (nothing line [] (All-nil IsBlank))))

pub front_stuck : (front : List Lexeme) (line at : ℕ) (bytes : List ℕ) → at < length bytes → (IsBlank (get_or bytes at 0) → ⊥) →
    ((x : Sign) (left : List ℕ) → Stands x (drop at bytes) left → ⊥) → IsFront front line (drop at bytes) bytes →
    (ys : List Lexeme) → Spells 1 ys bytes → ⊥
front_stuck front line at bytes in' solid none f ys g =
    let p = f.part ys g in
    no_sign (drop at bytes) line p.0 none (get_or bytes at 0) (drop (at + 1) bytes) (drop_more bytes at 0 in') solid p.2

pub word_stands : (x : Sign) (bytes : List ℕ) (at end : ℕ) → at ≤ end → end ≤ length bytes → (BeginsWithWordByte (drop end bytes) → ⊥) →
    IsSpelling x (take (end - at) (drop at bytes)) → Stands x (drop at bytes) (drop end bytes)
word_stands x bytes at end low high ended h =
    let e : at + (end - at) ≡ end = omega arith in
    let d : drop (end - at) (drop at bytes) ≡ drop end bytes = drop-drop (end - at) at bytes ∙ ap (λ n. drop n bytes) e in
    let p : take (end - at) (drop at bytes) ++ drop end bytes ≡ drop at bytes = rw (← d) (take-append-drop (end - at) (drop at bytes)) in
    record { text = take (end - at) (drop at bytes); parts = sym p; spelled = h; ends = λ _. ended }

pub mark_stands : (x : Sign) (bytes : List ℕ) (at : ℕ) → at < length bytes → IsSpelling x (get_or bytes at 0 ∷ []) → (IsWord x → ⊥) →
    Stands x (drop at bytes) (drop (at + 1) bytes)
mark_stands x bytes at in' h w = record { text = get_or bytes at 0 ∷ []; parts = drop_more bytes at 0 in'; spelled = h; ends = λ v. absurd (w v) }

pub one_line : (c : ℕ) → newlines (c ∷ []) ≤ 1
one_line c = count_by-le-length (λ x. x == 10) (c ∷ [])
