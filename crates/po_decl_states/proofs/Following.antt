-- What may stand behind specifiers, by one token.
use Rattle.std.proofs.Common.{◌≡◌, ◌∷◌, ◌↔◌, ℕ, List, Bool, refl, sym, subst}
use Rattle.std.specs.Prelude.{IsTrue, Contains, codes, [], true, false, not}
use Rattle.po_base.specs.declared.token.TokenKind.{TokenKind}
use Rattle.po_base.specs.declared.token.TokenKind.TheVariants as k
use Rattle.po_tree.specs.Signs.{Sign}
use Rattle.po_tree.specs.Words.{IsName}
use Rattle.po_tree.specs.Expressions.{Typed, untyped}
use Rattle.po_tree.specs.NameSets.{AreSame}
use Rattle.po_tree.specs.Declarations.{IsDeclared}
use Rattle.po_decl_laws.specs.Fronts.{EndsSpecifiers, at_sign, at_word}

abbrev sign : TokenKind → List ℕ → Sign
sign kind text = record { kind = kind; text = text }

word_punct : k.Word ≡ k.Punct → ⊥
word_punct q = cc

other_text : {types : List (List ℕ)} {seen : Typed} {text : List ℕ} {kind : TokenKind} {signs : List Sign} → kind ≡ k.Punct → EndsSpecifiers types seen (sign kind text ∷ signs) → text ≡ codes "{" → ⊥
other_text q (at_sign text signs other) = other
other_text q (at_word name signs is) = λ _. word_punct q

-- a punctuator does so where it is no brace
pub sign_follows : {types : List (List ℕ)} {seen : Typed} {text : List ℕ} {kind : TokenKind} {signs : List Sign} (brace : Bool) → kind ≡ k.Punct → IsTrue brace ↔ (text ≡ codes "{") →
    IsTrue (not brace) ↔ EndsSpecifiers types seen (sign kind text ∷ signs)
sign_follows true q t = ((λ h. absurd cc), (λ e. absurd (other_text q e (t.0 refl))))
sign_follows {types = types} {seen = seen} {text = text} {signs = signs} false q t =
    ((λ _. subst (λ v. EndsSpecifiers types seen (sign v text ∷ signs)) (sym q) (at_sign text signs (λ b. let f = t.1 b in cc))), (λ _. refl))

-- neither does a token of another kind
pub none_follows : {types : List (List ℕ)} {seen : Typed} {text : List ℕ} {kind : TokenKind} {signs : List Sign} → (kind ≡ k.Punct → ⊥) → (kind ≡ k.Word → ⊥) → EndsSpecifiers types seen (sign kind text ∷ signs) → ⊥
none_follows p w (at_sign text signs other) = p refl
none_follows p w (at_word name signs is) = w refl

declared : {types : List (List ℕ)} {seen : Typed} {text : List ℕ} {kind : TokenKind} {signs : List Sign} → kind ≡ k.Word → EndsSpecifiers types seen (sign kind text ∷ signs) → IsDeclared types seen text
declared q (at_sign text signs other) = absurd (word_punct (sym q))
declared q (at_word name signs is) = is

-- a word does so where it may be declared
pub word_follows : {types : List (List ℕ)} {seen : Typed} {text : List ℕ} {kind : TokenKind} {signs : List Sign} {told : Bool} → kind ≡ k.Word → IsTrue told ↔ IsDeclared types seen text →
    IsTrue told ↔ EndsSpecifiers types seen (sign kind text ∷ signs)
word_follows {types = types} {seen = seen} {text = text} {signs = signs} q t =
    ((λ h. subst (λ v. EndsSpecifiers types seen (sign v text ∷ signs)) (sym q) (at_word text signs (t.0 h))), (λ e. t.1 (declared q e)))

-- and nothing stands behind the last token
pub nothing_follows : {types : List (List ℕ)} {seen : Typed} {signs : List Sign} → signs ≡ [] → EndsSpecifiers types seen signs → ⊥
nothing_follows q (at_sign text signs other) = cc
nothing_follows q (at_word name signs is) = cc

-- a word that is a name may be declared where no typedef name is one
pub declared_untyped : (types now : List (List ℕ)) (seen : Typed) (text : List ℕ) (told : Bool) → AreSame types now → IsName text → seen ≡ untyped → IsTrue told ↔ Contains now text →
    IsTrue (not told) ↔ IsDeclared types seen text
declared_untyped types now seen text true s n u t = ((λ h. absurd cc), (λ d. absurd (d.1 ((s text).1 (t.0 refl)) u)))
declared_untyped types now seen text false s n u t = ((λ _. (n, λ h _. let f = t.1 ((s text).0 h) in cc)), (λ _. refl))

-- a flag agrees with what is told
pub agrees_true : {P : Type 0} (flag told : Bool) → flag ≡ true → IsTrue told ↔ P → IsTrue told ↔ (IsTrue flag ↔ P)
agrees_true flag told q t = ((λ h. ((λ _. t.0 h), (λ _. q))), (λ k. t.1 (k.0 q)))

pub agrees_false : {P : Type 0} (flag told : Bool) → flag ≡ false → IsTrue told ↔ P → IsTrue (not told) ↔ (IsTrue flag ↔ P)
agrees_false flag true q t = ((λ h. absurd cc), (λ k. let f = k.1 (t.0 refl) in absurd cc))
agrees_false flag false q t = ((λ _. ((λ h. absurd cc), (λ p. let f = t.1 p in absurd cc))), (λ _. refl))
