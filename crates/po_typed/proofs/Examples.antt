-- The rules can be met: `sizeof(int[3])` is a constant of the value 12, and has the type of size_t.
use Rattle.std.proofs.Common.{◌≡◌, ℕ, List, [], ◌∷◌, length, nat_eq, Option, Some, None, false, refl, sym, ap, ◌∙◌, arith, codes, Contains}
use Rattle.std.specs.Prelude.{pos}
use Rattle.std.specs.Option.{option_map_or}
use Rattle.std.proofs.lemmas.List.Elements.{All-contains, All-from_recursion, Contains-get_or}
use Rattle.std.proofs.lemmas.List.Sorted.{IsPermutation-refl}
use Rattle.po_arith.specs.declared.target.Target.TheVariants as t
use Rattle.po_tree.specs.declared.expression.Exp.{Exp, out-Exp, out-roll-Exp}
use Rattle.po_tree.specs.declared.expression.Exp.TheVariants as e
use Rattle.po_tree.specs.declared.expression.Exp.TheOpen.{Exp-F, Suffix-F}
use Rattle.po_tree.specs.declared.expression.Specifier.TheVariants as sp
use Rattle.po_tree.specs.declared.expression.Suffix.{out-Suffix, out-roll-Suffix}
use Rattle.po_tree.specs.declared.expression.Suffix.TheVariants as su
use Rattle.po_tree.specs.declared.expression.TypeName.{TypeName}
use Rattle.po_tree.specs.Literals.{suffixes}
use Rattle.po_tree.specs.Words.{type_words, storage_classes}
use Rattle.po_types.specs.declared.ctype.CType.{CType}
use Rattle.po_types.specs.declared.ctype.CType.TheVariants as c
use Rattle.po_types.specs.declared.layout.Layout.{Layout}
use Rattle.po_types.specs.Integers.{int_type, unsigned_type}
use Rattle.po_types.specs.Types.{size_of, as_object, counts_bytes}
use Rattle.po_types.proofs.TypesLaws.{bytes_Int, bytes_Array}
use Rattle.po_types.specs.declared.ctype.CType.TheOpen.{CType-F}
use Rattle.po_typed.specs.Scopes.{Context, Block}
use Rattle.po_typed.specs.Constants.{IsNumber}
use Rattle.po_typed.specs.BaseTypes.{HasWord, no_more_words, word_of_type, word_types, IsWordType}
use Rattle.po_typed.specs.Expressions.{pair, int, Types, number, size_of_type, base_words, Named, named_array, sized_first, no_more_sizes, one_more_size, Constant, constant_number, constant_size_of_type}
use Rattle.po_typed.proofs.OneWordType.{same_text}
use Rattle.po_lists.proofs.Booleans.{never_both}

pub three : Exp
three = e.Num (codes "3")

pub three_ints : TypeName
three_ints = record { specs = sp.Word (codes "int") ∷ []; declarator = record { stars = []; name = None; suffix = su.Arrays (Some three ∷ []) } }

out_three : out-Exp three ≡ Exp-F.Num (codes "3")
unfolding three
out_three = ap out-Exp (sym (e.rolls-Num (codes "3"))) ∙ out-roll-Exp (Exp-F.Num (codes "3"))

out_arrays : out-Suffix three_ints.declarator.suffix ≡ Suffix-F.Arrays (Some three ∷ [])
unfolding three_ints
out_arrays = ap out-Suffix (sym (su.rolls-Arrays (Some three ∷ []))) ∙ out-roll-Suffix (Suffix-F.Arrays (Some three ∷ []))

is_three : IsNumber t.L64 (codes "3") int_type 3
is_three = record { suffix = []; integer = ([], refl, Contains-get_or suffixes 0 [] (omega arith)); behind = refl; valued = refl; typed = refl }

is_int : IsWordType t.L64 (sp.Word (codes "int") ∷ []) int
is_int = record {
  words = codes "int" ∷ [];
  row = codes "int" ∷ [];
  among = word_of_type (codes "int") [] [] (Contains-get_or type_words 3 [] (omega arith)) no_more_words;
  reordered = IsPermutation-refl (codes "int" ∷ []);
  listed = Contains-get_or (word_types t.L64) 10 ([], int) (omega arith);
}

-- the only word among the specifiers
only_int : (word : List ℕ) → HasWord word (sp.Word (codes "int") ∷ []) → word ≡ codes "int"
only_int word h = same_text (All-contains (λ z. z ≡ sp.Word (codes "int")) (sp.Word (codes "int") ∷ []) (sp.Word word)
    (All-from_recursion (λ z. z ≡ sp.Word (codes "int")) (sp.Word (codes "int") ∷ []) (refl, tt)) h)

is_no_class : (word : List ℕ) → Contains (codes "inline" ∷ storage_classes) word → nat_eq (length word) 3 ≡ false
is_no_class word h = All-contains (λ z. nat_eq (length z) 3 ≡ false) (codes "inline" ∷ storage_classes) word
    (All-from_recursion (λ z. nat_eq (length z) 3 ≡ false) (codes "inline" ∷ storage_classes) (refl, (refl, (refl, (refl, (refl, (refl, tt))))))) h

module _ (structs : List (Option Layout)) (members : List (List (List ℕ × CType))) (names : List (Option (List ℕ))) (blocks : List Block) where
  abbrev here : Context
  here = record { target = t.L64; structs = structs; members = members; names = names; blocks = blocks }

  int_has_4 : size_of t.L64 structs int ≡ Some 4
  int_has_4 = ap (λ z. option_map_or (as_object t.L64) z None) (bytes_Int t.L64 structs int_type)

  array_has_12 : size_of t.L64 structs (c.Array int (Some 3)) ≡ Some 12
  array_has_12 = ap (λ z. option_map_or (as_object t.L64) z None) (bytes_Array t.L64 structs int (Some 3) ∙ ap (λ z. counts_bytes t.L64 structs (CType-F.Array z (Some 3))) (bytes_Int t.L64 structs int_type))

  typed_three : Types here (out-Exp three) int int (pair int int ∷ [])
  typed_three = rw out_three (number is_three)

  pub names_three_ints : Named here three_ints (c.Array int (Some 3)) (pair int int ∷ [])
  unfolding three_ints
  names_three_ints = named_array
      (record {
        base = int;
        allowed = λ word h k. never_both (ap (λ z. nat_eq (length z) 3) (only_int word k)) (is_no_class word h);
        said = base_words is_int;
        restricted = λ k. never_both (sym (ap (λ z. nat_eq (length z) 8) (only_int (codes "restrict") k))) refl;
        pointable = λ n. absurd (n refl);
        unnamed = refl;
        type = refl;
      })
      out_arrays
      (sized_first (one_more_size typed_three (rw out_three (constant_number is_three)) (omega arith) no_more_sizes (4, int_has_4) (12, array_has_12)))

  pub size_has_type : (to : CType) → Types here (Exp-F.SizeType three_ints) (c.Int (unsigned_type 64)) to (pair (c.Int (unsigned_type 64)) to ∷ pair int int ∷ [])
  size_has_type to = size_of_type names_three_ints array_has_12 refl

  pub size_is_12 : Constant here (Exp-F.SizeType three_ints) (unsigned_type 64) (pos 12)
  size_is_12 = constant_size_of_type names_three_ints array_has_12
