-- String literals, one character after the other, and side by side.
use Rattle.std.proofs.Common.{◌≡◌, ℕ, zero, suc, ◌+◌, ◌<◌, ◌≤◌, List, [], ◌∷◌, ◌++◌, length, drop, take, get_or, Bool, true, false, sym, ap, refl, subst, arith, Some, None, append_assoc}
use Rattle.std.specs.Prelude.{MatchBool}
use Rattle.std.proofs.lemmas.List.{append-nil, take_more}
use Rattle.po_tree.specs.Literals.{first_character, Characters, end_quote, next_character}
use Rattle.po_typed.specs.Constants.{AreStrings, no_more_strings, one_more_string}
use Rattle.po_exp_parts.proofs.Quoted.{Closes, goes_on, closes}
use Rattle.po_constants.specs.Strings.{IsStringOf}

-- between the first quote and a place of the text these characters stand
pub record IsQuoted (text : List ℕ) (end : ℕ) (done : List ℕ) : Type 0 where
  pub within : end ≤ length text
  pub sound : (values : List ℕ) → Characters 34 values (drop end text) → Characters 34 (done ++ values) (drop 1 text)
  pub complete : Closes 34 (drop 1 text) → Closes 34 (drop end text)

pub begins : (text : List ℕ) → 1 ≤ length text → IsQuoted text 1 []
begins text some = record { within = some; sound = λ values h. h; complete = λ h. h }

pub one_more : (text done : List ℕ) (end next value : ℕ) → IsQuoted text end done → next ≤ length text → Some (value, drop next text) ≡ first_character 34 (drop end text) →
    IsQuoted text next (done ++ value ∷ [])
one_more text done end next value q in' read = record {
  within = in';
  sound = λ values h. rw append_assoc (q.sound (value ∷ values) (next_character value values (drop end text) (drop next text) (sym read) h));
  complete = λ h. goes_on 34 (drop end text) (drop next text) value refl (sym read) (q.complete h);
}

-- the quote alone ends the literal
pub ended : (text done : List ℕ) (end : ℕ) → text ≡ 34 ∷ drop 1 text → IsQuoted text end done → drop end text ≡ 34 ∷ [] → IsStringOf text done
ended text done end first q last =
    record { rest = drop 1 text; quoted = first; characters = subst (λ vs. Characters 34 vs (drop 1 text)) (append-nil done) (q.sound [] (rw last end_quote)) }

pub not_ended : (text done : List ℕ) (end : ℕ) → IsQuoted text end done → None ≡ first_character 34 (drop end text) → (drop end text ≡ 34 ∷ [] → ⊥) → (values : List ℕ) → IsStringOf text values → ⊥
not_ended text done end q none other values h =
    let own : drop 1 text ≡ h.rest = ap (drop 1) h.quoted in
    other (closes 34 (drop end text) (sym none) (q.complete (values, subst (Characters 34 values) (sym own) h.characters)))

-- a text that doesn't begin with the quote
pub not_begun : (text : List ℕ) → ((rest : List ℕ) → text ≡ 34 ∷ rest → ⊥) → (values : List ℕ) → IsStringOf text values → ⊥
not_begun text other values h = other h.rest h.quoted

-- literals side by side
added : (texts : List (List ℕ)) (text vs ws : List ℕ) → AreStrings texts vs → IsStringOf text ws → AreStrings (texts ++ text ∷ []) (vs ++ ws)
added [] text vs ws no_more_strings h = rw h.quoted (subst (AreStrings ((34 ∷ h.rest) ∷ [])) (append-nil ws) (one_more_string h.rest ws [] [] h.characters no_more_strings))
added (t ∷ ts) text vs ws (one_more_string rest values others texts f g) h = rw append_assoc (one_more_string rest values (others ++ ws) (texts ++ text ∷ []) f (added texts text others ws g h))

pub added_at : (texts : List (List ℕ)) (i : ℕ) (x vs ws : List ℕ) → i < length texts → x ≡ get_or texts i x → AreStrings (take i texts) vs → IsStringOf x ws → AreStrings (take (i + 1) texts) (vs ++ ws)
added_at texts i x vs ws in' is f h = rw (take_more texts i x in') (added (take i texts) (get_or texts i x) vs ws f (subst (λ t. IsStringOf t ws) is h))

-- each of them is a literal
each : (texts : List (List ℕ)) (i : ℕ) (d vs : List ℕ) → i < length texts → AreStrings texts vs → (ws : List ℕ) × IsStringOf (get_or texts i d) ws
each texts i d vs in' no_more_strings = absurd (omega arith)
each texts zero d vs in' (one_more_string rest values others ts f g) = (values, record { rest = rest; quoted = refl; characters = f })
each texts (suc i) d vs in' (one_more_string rest values others ts f g) = each ts i d others (omega arith) g

pub not_each : (texts : List (List ℕ)) (i : ℕ) (x : List ℕ) → i < length texts → x ≡ get_or texts i x → ((ws : List ℕ) → IsStringOf x ws → ⊥) → (vs : List ℕ) → AreStrings texts vs → ⊥
not_each texts i x in' is other vs h = let e = each texts i x vs in' h in other e.0 (subst (λ t. IsStringOf t e.0) (sym is) e.1)

-- one of two answers
pub told : (P Q : Type 0) (found : Bool) → (found ≡ true → P) → (found ≡ false → Q) → MatchBool found P Q
told P Q true holds fails = holds refl
told P Q false holds fails = fails refl
