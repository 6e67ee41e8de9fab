-- An expression has one typing: one type whatever it is converted to, and with one conversion one list of pairs.
use Rattle.std.proofs.Common.{◌≡◌, ◌+◌, List, [], ◌∷◌, ◌++◌, length, Option, Some, None, true, false, refl, sym, ap, ◌∙◌}
use Rattle.std.specs.Prelude.{ℤ, pos, nat_abs, get_or}
use Rattle.po_arith.specs.declared.int_type.IntType.{IntType}
use Rattle.po_base.specs.declared.operators.Op.TheVariants as op
use Rattle.po_tree.specs.declared.expression.Exp.{Exp}
use Rattle.po_tree.specs.declared.expression.TypeName.{TypeName}
use Rattle.po_types.specs.declared.ctype.CType.{CType}
use Rattle.po_types.specs.declared.ctype.CType.TheVariants as c
use Rattle.po_types.specs.declared.format.Spec.{Spec}
use Rattle.po_types.specs.Integers.{promoted, common, bool_type}
use Rattle.po_types.specs.Types.{size_of}
use Rattle.po_types.specs.Tables.{found}
use Rattle.po_types.specs.Laws.{OneFormat}
use Rattle.po_typed.specs.Forms.{Layer}
use Rattle.po_typed.specs.Scopes.{Context}
use Rattle.po_typed.specs.Operands.{value_type}
use Rattle.po_typed.specs.Constants.{complemented}
use Rattle.po_typed.specs.Expressions.{Pair, int, char, Types, object, enumerator, number, character, string, parenthesised, subscript, subscript_first, call, print, member, arrow, post_increment, post_decrement, pre_increment, pre_decrement, address, indirection, plus, minus, complement, negation, size_of_expression, size_of_type, cast_to_void, cast_number, cast_pointer, cast_null, cast_to_bool, binary, null_right, null_left, logical_and, logical_or, conditional, assignment, compound_number, compound_pointer, comma, Operand, operand, Assigned, assigned_number, assigned_struct, assigned_pointer, assigned_null, assigned_bool, Passes, no_more_arguments, argument, Prints, no_more_printed, printed_int, printed_long, printed_size, printed_text, Named, named_plain, named_array, IsArray, sized_first, unsized_first, Sized, no_more_sizes, one_more_size, Constant, constant_number, constant_character, constant_enumerator, constant_paren, constant_plus, constant_minus, constant_complement, constant_not, constant_size_of_expression, constant_size_of_type, constant_cast, constant_arithmetic, constant_shift, constant_comparison, constant_and, constant_and_zero, constant_or, constant_or_one, constant_second, constant_third}
use Rattle.po_typed.proofs.OneConstant.{number_is_one, character_is_one, strings_are_one}
use Rattle.po_typed.proofs.OneType.{found_or_not, one_integer, one_pointee, one_structure, one_signature, no_pointer, one_tested, one_stepped, is_computing, is_shifting, is_comparing, is_combination, right_with_null, left_with_null, one_combination, one_chosen}
use Rattle.po_typed.proofs.OneBase.{one_starred}
use Rattle.po_typed.proofs.OneForm.{SameTyping, SameNamed, SameConstant, alone, first, joined, between, word_type, constant_in, word_of, texts_of, sizes_of, cast_as, as_void, as_number, as_pointer, object_type, one_function, word_parts, cast_parts, binary_parts, assigned_parts, assigned_as, first_is_sized, strings_as, format_as, prints_as, array_as, one_becoming, one_computed, one_shifted, one_compared, computes_or_shifts, computes_or_compares, shifts_or_compares}
use Rattle.po_lists.proofs.Options.{one_some}
use Rattle.po_lists.proofs.Booleans.{never_both}

module _ (one_format : OneFormat) (ctx : Context) where
  mutual
    pub one_type : {x : Layer} {t u to to' : CType} {ps qs : List Pair} → Types ctx x t to ps → Types ctx x u to' qs → SameTyping t to ps u to' qs
    one_type (object h) d = let P = word_parts ctx d in let et = one_some (object_type ctx h) P.type in record { type = et; pairs = λ e. alone et e ∙ sym P.pairs }
    one_type (enumerator h) d = let P = word_parts ctx d in let et = one_some (ap word_type h) P.type in record { type = et; pairs = λ e. alone et e ∙ sym P.pairs }
    one_type (number h) (number h') = let et = ap c.Int (number_is_one h h').0 in record { type = et; pairs = λ e. alone et e }
    one_type (character h) (character h') = record { type = refl; pairs = λ e. alone refl e }
    one_type (string h q) (string h' q') =
        let et = q ∙ ap (λ z. c.Array char (Some (length z + 1))) (strings_are_one h h') ∙ sym q' in
        record { type = et; pairs = λ e. alone et e }
    one_type (parenthesised A) (parenthesised A') = let Q = one_type A A' in record { type = Q.type; pairs = λ e. first Q.type e (Q.pairs Q.type) }
    one_type (subscript {t = t} s A B h) (subscript {t = t'} s' A' B' h') =
        let Q = one_operand A A' in
        let R = one_operand B B' in
        let et = one_pointee t t' Q.type in
        record { type = et; pairs = λ e. between (Q.pairs Q.type) et e (R.pairs R.type) }
    one_type (subscript_first {t = t} s A B h) (subscript_first {t = t'} s' A' B' h') =
        let Q = one_operand A A' in
        let R = one_operand B B' in
        let et = one_pointee t t' R.type in
        record { type = et; pairs = λ e. between (Q.pairs Q.type) et e (R.pairs R.type) }
    one_type (subscript {t = t} s A B h) (subscript_first s' A' B' h') = let Q = one_operand A A' in no_pointer s' t (sym Q.type)
    one_type (subscript_first s A B h) (subscript {t = t'} s' A' B' h') = let Q = one_operand A A' in no_pointer s t' Q.type
    one_type (call {t = t} {params = ts} n q m A) (call {t = t'} {params = ts'} n' q' m' A') =
        let ef = one_function ctx m m' (ap word_of (sym n ∙ n')) in
        let S = one_signature t t' ts ts' false false (sym q ∙ ef ∙ q') in
        record { type = S.0; pairs = λ e. first ef ef (first S.0 e (one_passed A A' S.1)) }
    one_type (print {values = values} {specs = specs} n m s v k A B) (print {specs = specs'} n' m' s' v' k' A' B') =
        let ev = strings_are_one v (strings_as v' (ap texts_of (sym s ∙ s'))) in
        let es = one_format ctx.target values specs specs' k (format_as k' ev) in
        let Q = one_operand A A' in
        record { type = refl; pairs = λ e. first refl refl (first refl e (joined (Q.pairs refl) (one_printed B (prints_as ctx B' es)))) }
    one_type (call {t = t} {params = ts} n q m A) (print n' m' s' v' k' A' B') =
        let S = one_signature t int ts (c.Ptr char ∷ []) false true (sym q ∙ one_function ctx m m' (ap word_of (sym n ∙ n'))) in never_both refl (sym S.2)
    one_type (print n m s v k A B) (call {t = t} {params = ts} n' q' m' A') =
        let S = one_signature t int ts (c.Ptr char ∷ []) false true (sym q' ∙ one_function ctx m' m (ap word_of (sym n' ∙ n))) in never_both refl (sym S.2)
    one_type (member {name = name} n A h) (member n' A' h') =
        let Q = one_type A A' in
        let et = one_some h (ap (λ z. found (get_or ctx.members z []) name) (one_structure n n' Q.type) ∙ h') in
        record { type = et; pairs = λ e. joined (Q.pairs Q.type) (alone et e) }
    one_type (arrow {name = name} n A h) (arrow n' A' h') =
        let Q = one_operand A A' in
        let et = one_some h (ap (λ z. found (get_or ctx.members z []) name) (one_structure n n' (one_pointee (c.Struct n) (c.Struct n') Q.type)) ∙ h') in
        record { type = et; pairs = λ e. joined (Q.pairs Q.type) (alone et e) }
    one_type (post_increment l h A) (post_increment l' h' A') =
        let Q = one_type A A' in record { type = Q.type; pairs = λ e. joined (Q.pairs (one_stepped h h' Q.type)) (alone Q.type e) }
    one_type (post_decrement l h A) (post_decrement l' h' A') =
        let Q = one_type A A' in record { type = Q.type; pairs = λ e. joined (Q.pairs (one_stepped h h' Q.type)) (alone Q.type e) }
    one_type (pre_increment l h A) (pre_increment l' h' A') =
        let Q = one_type A A' in record { type = Q.type; pairs = λ e. first Q.type e (Q.pairs (one_stepped h h' Q.type)) }
    one_type (pre_decrement l h A) (pre_decrement l' h' A') =
        let Q = one_type A A' in record { type = Q.type; pairs = λ e. first Q.type e (Q.pairs (one_stepped h h' Q.type)) }
    one_type (address l A) (address l' A') =
        let Q = one_type A A' in record { type = ap c.Ptr Q.type; pairs = λ e. first (ap c.Ptr Q.type) e (Q.pairs Q.type) }
    one_type (indirection {t = t} A) (indirection {t = t'} A') =
        let Q = one_operand A A' in let et = one_pointee t t' Q.type in record { type = et; pairs = λ e. first et e (Q.pairs Q.type) }
    one_type (plus s A) (plus s' A') =
        let Q = one_operand A A' in let et = ap (λ z. c.Int (promoted z)) (one_integer s s' Q.type) in record { type = et; pairs = λ e. first et e (Q.pairs et) }
    one_type (minus s A) (minus s' A') =
        let Q = one_operand A A' in let et = ap (λ z. c.Int (promoted z)) (one_integer s s' Q.type) in record { type = et; pairs = λ e. first et e (Q.pairs et) }
    one_type (complement s A) (complement s' A') =
        let Q = one_operand A A' in let et = ap (λ z. c.Int (promoted z)) (one_integer s s' Q.type) in record { type = et; pairs = λ e. first et e (Q.pairs et) }
    one_type (negation h A) (negation h' A') =
        let Q = one_operand A A' in record { type = refl; pairs = λ e. first refl e (Q.pairs (one_tested h h' Q.type)) }
    one_type (size_of_expression A h q) (size_of_expression A' h' q') =
        let Q = one_type A A' in record { type = q ∙ sym q'; pairs = λ e. first (q ∙ sym q') e (Q.pairs Q.type) }
    one_type (size_of_type N h q) (size_of_type N' h' q') =
        let Q = one_named N N' in record { type = q ∙ sym q'; pairs = λ e. first (q ∙ sym q') e Q.pairs }
    one_type (cast_to_void {t = v} N A) d =
        let P = cast_parts ctx d in
        let Q = one_named N P.named in
        let R = one_operand A P.operand in
        let ec = as_void v ∙ ap (λ z. cast_as z v) Q.type ∙ ap (cast_as _) R.type ∙ sym P.converted in
        record { type = Q.type; pairs = λ e. first Q.type e (joined Q.pairs (R.pairs ec)) ∙ sym P.pairs }
    one_type (cast_number s t N A) d =
        let P = cast_parts ctx d in
        let Q = one_named N P.named in
        let R = one_operand A P.operand in
        let ec = as_number t (c.Int s) ∙ ap (λ z. cast_as z (c.Int s)) Q.type ∙ ap (cast_as _) R.type ∙ sym P.converted in
        record { type = Q.type; pairs = λ e. first Q.type e (joined Q.pairs (R.pairs ec)) ∙ sym P.pairs }
    one_type (cast_pointer t u N A) d =
        let P = cast_parts ctx d in
        let Q = one_named N P.named in
        let R = one_operand A P.operand in
        let ec = as_pointer t (c.Ptr u) ∙ ap (λ z. cast_as z (c.Ptr u)) Q.type ∙ ap (cast_as _) R.type ∙ sym P.converted in
        record { type = Q.type; pairs = λ e. first Q.type e (joined Q.pairs (R.pairs ec)) ∙ sym P.pairs }
    one_type (cast_null t s N h A) d =
        let P = cast_parts ctx d in
        let Q = one_named N P.named in
        let R = one_operand A P.operand in
        let ec = as_pointer t (c.Int s) ∙ ap (λ z. cast_as z (c.Int s)) Q.type ∙ ap (cast_as _) R.type ∙ sym P.converted in
        record { type = Q.type; pairs = λ e. first Q.type e (joined Q.pairs (R.pairs ec)) ∙ sym P.pairs }
    one_type (cast_to_bool u N A) d =
        let P = cast_parts ctx d in
        let Q = one_named N P.named in
        let R = one_operand A P.operand in
        let ec = as_number bool_type (c.Ptr u) ∙ ap (λ z. cast_as z (c.Ptr u)) Q.type ∙ ap (cast_as _) R.type ∙ sym P.converted in
        record { type = Q.type; pairs = λ e. first Q.type e (joined Q.pairs (R.pairs ec)) ∙ sym P.pairs }
    one_type (binary {o = o} h A B) d =
        let P = binary_parts ctx d in
        let Q = one_operand A P.first_operand in
        let R = one_operand B P.second_operand in
        let k = one_combination ctx o (is_combination h) P.combined Q.type R.type in
        let er = ap (λ z. z.result) k in
        record { type = er; pairs = λ e. between (Q.pairs (ap (λ z. z.left) k)) er e (R.pairs (ap (λ z. z.right) k)) ∙ sym P.pairs }
    one_type (null_right {o = o} t s h n A B) d =
        let P = binary_parts ctx d in
        let Q = one_operand A P.first_operand in
        let R = one_operand B P.second_operand in
        let k = one_combination ctx o (right_with_null ctx o t s h) P.combined Q.type R.type in
        let er = ap (λ z. z.result) k in
        record { type = er; pairs = λ e. between (Q.pairs (ap (λ z. z.left) k)) er e (R.pairs (ap (λ z. z.right) k)) ∙ sym P.pairs }
    one_type (null_left {o = o} t s h n A B) d =
        let P = binary_parts ctx d in
        let Q = one_operand A P.first_operand in
        let R = one_operand B P.second_operand in
        let k = one_combination ctx o (left_with_null ctx o t s h) P.combined Q.type R.type in
        let er = ap (λ z. z.result) k in
        record { type = er; pairs = λ e. between (Q.pairs (ap (λ z. z.left) k)) er e (R.pairs (ap (λ z. z.right) k)) ∙ sym P.pairs }
    one_type (logical_and h k A B) (logical_and h' k' A' B') =
        let Q = one_operand A A' in
        let R = one_operand B B' in
        record { type = refl; pairs = λ e. between (Q.pairs (one_tested h h' Q.type)) refl e (R.pairs (one_tested k k' R.type)) }
    one_type (logical_or h k A B) (logical_or h' k' A' B') =
        let Q = one_operand A A' in
        let R = one_operand B B' in
        record { type = refl; pairs = λ e. between (Q.pairs (one_tested h h' Q.type)) refl e (R.pairs (one_tested k k' R.type)) }
    one_type (conditional {y = y} {z = z} h A k B C) (conditional h' A' k' B' C') =
        let Q = one_operand A A' in
        let R = one_operand B B' in
        let S = one_operand C C' in
        let er = one_chosen ctx y z k k' R.type S.type in
        record { type = er; pairs = λ e. between (Q.pairs (one_tested h h' Q.type)) er e (joined (R.pairs er) (S.pairs er)) }
    one_type (assignment l A B) (assignment l' A' B') =
        let Q = one_type A A' in record { type = Q.type; pairs = λ e. between (Q.pairs Q.type) Q.type e (one_assigned B (assigned_as ctx B' Q.type)) }
    one_type (compound_number {o = o} s t h l k A B) (compound_number s' t' h' l' k' A' B') =
        let Q = one_type A A' in
        let R = one_operand B B' in
        let e2 = one_combination ctx o (is_combination k) (is_combination k') Q.type R.type in
        record { type = Q.type; pairs = λ e. between (Q.pairs (ap (λ z. z.left) e2)) Q.type e (R.pairs (ap (λ z. z.right) e2)) }
    one_type (compound_pointer s t h l k A B) (compound_pointer s' t' h' l' k' A' B') =
        let Q = one_type A A' in
        let R = one_operand B B' in
        record { type = Q.type; pairs = λ e. between (Q.pairs Q.type) Q.type e (R.pairs R.type) }
    one_type (compound_number s t h l k A B) (compound_pointer s' t' h' l' k' A' B') = let Q = one_type A A' in no_pointer s t' Q.type
    one_type (compound_pointer s t h l k A B) (compound_number s' t' h' l' k' A' B') = let Q = one_type A A' in no_pointer s' t (sym Q.type)
    one_type (comma A B) (comma A' B') =
        let Q = one_operand A A' in
        let R = one_operand B B' in
        record { type = R.type; pairs = λ e. between (Q.pairs refl) R.type e (R.pairs R.type) }

    pub one_operand : {x : Exp} {t u to to' : CType} {ps qs : List Pair} → Operand ctx x t to ps → Operand ctx x u to' qs → SameTyping t to ps u to' qs
    one_operand (operand A q) (operand A' q') = let Q = one_type A A' in record { type = one_some q (ap (value_type ctx) Q.type ∙ q'); pairs = Q.pairs }

    pub one_assigned : {x : Exp} {t : CType} {ps qs : List Pair} → Assigned ctx x t ps → Assigned ctx x t qs → ps ≡ qs
    one_assigned (assigned_number s t A) d = let P = assigned_parts ctx d in let Q = one_operand A P.operand in Q.pairs refl
    one_assigned (assigned_struct n A) d = let P = assigned_parts ctx d in let Q = one_operand A P.operand in Q.pairs refl
    one_assigned (assigned_pointer t u A) d = let P = assigned_parts ctx d in let Q = one_operand A P.operand in Q.pairs refl
    one_assigned (assigned_null s t h A) d = let P = assigned_parts ctx d in let Q = one_operand A P.operand in Q.pairs refl
    one_assigned (assigned_bool u A) d = let P = assigned_parts ctx d in let Q = one_operand A P.operand in Q.pairs refl

    pub one_passed : {xs : List Exp} {ts us : List CType} {ps qs : List Pair} → Passes ctx xs ts ps → Passes ctx xs us qs → ts ≡ us → ps ≡ qs
    one_passed no_more_arguments no_more_arguments e = refl
    one_passed (argument {t = t} {ts = ts} A B) (argument {t = t'} {ts = ts'} A' B') e =
        let e1 : t ≡ t' = cc in
        let e2 : ts ≡ ts' = cc in
        joined (one_assigned A (assigned_as ctx A' e1)) (one_passed B B' e2)

    pub one_printed : {xs : List Exp} {fs : List Spec} {ps qs : List Pair} → Prints ctx xs fs ps → Prints ctx xs fs qs → ps ≡ qs
    one_printed no_more_printed no_more_printed = refl
    one_printed (printed_int s h A B) (printed_int s' h' A' B') =
        let Q = one_operand A A' in
        joined (Q.pairs (ap (λ z. c.Int (promoted z)) (one_integer s s' Q.type))) (one_printed B B')
    one_printed (printed_long s h A B) (printed_long s' h' A' B') =
        let Q = one_operand A A' in
        joined (Q.pairs (ap (λ z. c.Int (promoted z)) (one_integer s s' Q.type))) (one_printed B B')
    one_printed (printed_size s h A B) (printed_size s' h' A' B') =
        let Q = one_operand A A' in
        joined (Q.pairs (ap (λ z. c.Int (promoted z)) (one_integer s s' Q.type))) (one_printed B B')
    one_printed (printed_text A B) (printed_text A' B') =
        let Q = one_operand A A' in
        joined (Q.pairs refl) (one_printed B B')

    pub one_named : {name : TypeName} {t u : CType} {ps qs : List Pair} → Named ctx name t ps → Named ctx name u qs → SameNamed t ps u qs
    one_named (named_plain h) (named_plain h') = record { type = one_starred h.0 h'.0; pairs = refl }
    one_named (named_plain h) (named_array k q A) = found_or_not (ap sizes_of q) (ap sizes_of h.1)
    one_named (named_array k q A) (named_plain h) = found_or_not (ap sizes_of q) (ap sizes_of h.1)
    one_named (named_array k q A) (named_array k' q' A') =
        let es = one_some (ap sizes_of q) (ap sizes_of q') in
        one_array A (array_as ctx A' es) (one_starred k k')

    pub one_array : {t t' u u' : CType} {sizes : List (Option Exp)} {ps qs : List Pair} → IsArray ctx t sizes u ps → IsArray ctx t' sizes u' qs → t ≡ t' → SameNamed u ps u' qs
    one_array (sized_first A) (sized_first A') e = one_sized A A' e
    one_array (sized_first A) (unsized_first A' h') e = absurd (first_is_sized ctx A)
    one_array (unsized_first A h) (sized_first A') e = absurd (first_is_sized ctx A')
    one_array (unsized_first A h) (unsized_first A' h') e = let S = one_sized A A' e in record { type = ap (λ z. c.Array z None) S.type; pairs = S.pairs }

    pub one_sized : {t t' u u' : CType} {sizes : List (Option Exp)} {ps qs : List Pair} → Sized ctx t sizes u ps → Sized ctx t' sizes u' qs → t ≡ t' → SameNamed u ps u' qs
    one_sized no_more_sizes no_more_sizes e = record { type = e; pairs = refl }
    one_sized (one_more_size {u = u} {n = n} A C l B h k) (one_more_size {u = u'} {n = n'} A' C' l' B' h' k') e =
        let Q = one_type A A' in
        let R = one_constant C C' in
        let S = one_sized B B' e in
        let en : n ≡ n' = ap nat_abs R.value in
        let eu : u ≡ u' = S.type in
        record { type = ap (λ z. c.Array z (Some n)) eu ∙ ap (λ z. c.Array u' (Some z)) en; pairs = joined (Q.pairs Q.type) S.pairs }

    pub one_constant : {x : Layer} {t u : IntType} {v w : ℤ} → Constant ctx x t v → Constant ctx x u w → SameConstant t v u w
    one_constant (constant_number h) (constant_number h') = let q = number_is_one h h' in record { type = q.0; value = ap pos q.1 }
    one_constant (constant_character h) (constant_character h') = record { type = refl; value = character_is_one h h' }
    one_constant (constant_enumerator {v = v} h) (constant_enumerator h') = record { type = refl; value = ap (constant_in v) (sym h ∙ h') }
    one_constant (constant_paren A) (constant_paren A') = one_constant A A'
    one_constant (constant_plus A h) (constant_plus A' h') =
        let Q = one_constant A A' in let et = ap promoted Q.type in record { type = et; value = one_becoming h h' et Q.value }
    one_constant (constant_minus A h k) (constant_minus A' h' k') =
        let Q = one_constant A A' in
        let et = ap promoted Q.type in
        record { type = et; value = one_computed k k' et refl (one_becoming h h' et Q.value) }
    one_constant (constant_complement {t = t} {w = w} A h) (constant_complement {t = t'} {w = w'} A' h') =
        let Q = one_constant A A' in
        let et = ap promoted Q.type in
        let ew = one_becoming h h' et Q.value in
        record { type = et; value = ap (λ z. complemented z w) et ∙ ap (complemented (promoted t')) ew }
    one_constant (constant_not A h) (constant_not A' h') = let Q = one_constant A A' in record { type = refl; value = one_compared h h' Q.value refl }
    one_constant (constant_size_of_expression A h) (constant_size_of_expression A' h') =
        let Q = one_type A A' in record { type = refl; value = ap pos (one_some h (ap (size_of ctx.target ctx.structs) Q.type ∙ h')) }
    one_constant (constant_size_of_type N h) (constant_size_of_type N' h') =
        let Q = one_named N N' in record { type = refl; value = ap pos (one_some h (ap (size_of ctx.target ctx.structs) Q.type ∙ h')) }
    one_constant (constant_cast {t = t} N A h) (constant_cast {t = t'} N' A' h') =
        let R = one_named N N' in
        let Q = one_constant A A' in
        let et = one_integer t t' R.type in
        record { type = et; value = one_becoming h h' et Q.value }
    one_constant (constant_arithmetic {s = s} {t = t} o A B h k m) (constant_arithmetic {s = s'} {t = t'} o' A' B' h' k' m') =
        let Q = one_constant A A' in
        let R = one_constant B B' in
        let et = ap (λ z. common z t) Q.type ∙ ap (common s') R.type in
        record { type = et; value = one_computed m m' et (one_becoming h h' et Q.value) (one_becoming k k' et R.value) }
    one_constant (constant_shift o A B h k m) (constant_shift o' A' B' h' k' m') =
        let Q = one_constant A A' in
        let R = one_constant B B' in
        let et = ap promoted Q.type in
        record { type = et; value = one_shifted m m' et (one_becoming h h' et Q.value) (ap nat_abs (one_becoming k k' (ap promoted R.type) R.value)) }
    one_constant (constant_comparison {s = s} {t = t} o A B h k m) (constant_comparison {s = s'} o' A' B' h' k' m') =
        let Q = one_constant A A' in
        let R = one_constant B B' in
        let et = ap (λ z. common z t) Q.type ∙ ap (common s') R.type in
        record { type = refl; value = one_compared m m' (one_becoming h h' et Q.value) (one_becoming k k' et R.value) }
    one_constant (constant_arithmetic {o = o} i A B h k m) (constant_shift i' A' B' h' k' m') = computes_or_shifts o (is_computing i) (is_shifting i')
    one_constant (constant_arithmetic {o = o} i A B h k m) (constant_comparison i' A' B' h' k' m') = computes_or_compares o (is_computing i) (is_comparing i')
    one_constant (constant_shift {o = o} i A B h k m) (constant_arithmetic i' A' B' h' k' m') = computes_or_shifts o (is_computing i') (is_shifting i)
    one_constant (constant_shift {o = o} i A B h k m) (constant_comparison i' A' B' h' k' m') = shifts_or_compares o (is_shifting i) (is_comparing i')
    one_constant (constant_comparison {o = o} i A B h k m) (constant_arithmetic i' A' B' h' k' m') = computes_or_compares o (is_computing i') (is_comparing i)
    one_constant (constant_comparison {o = o} i A B h k m) (constant_shift i' A' B' h' k' m') = shifts_or_compares o (is_shifting i') (is_comparing i)
    one_constant (constant_and A n B h) (constant_and A' n' B' h') = let R = one_constant B B' in record { type = refl; value = one_compared h h' R.value refl }
    one_constant (constant_and A n B h) (constant_and_zero A' f') = let Q = one_constant A A' in absurd (n Q.value)
    one_constant (constant_and_zero A f) (constant_and A' n' B' h') = let Q = one_constant A A' in absurd (n' (sym Q.value))
    one_constant (constant_and_zero A f) (constant_and_zero A' f') = record { type = refl; value = refl }
    one_constant (constant_or A B h) (constant_or A' B' h') = let R = one_constant B B' in record { type = refl; value = one_compared h h' R.value refl }
    one_constant (constant_or A B h) (constant_or_one A' n' f') = let Q = one_constant A A' in absurd (n' (sym Q.value))
    one_constant (constant_or_one A n f) (constant_or A' B' h') = let Q = one_constant A A' in absurd (n Q.value)
    one_constant (constant_or_one A n f) (constant_or_one A' n' f') = record { type = refl; value = refl }
    one_constant (constant_second {s = s} t A n B f C h) (constant_second {s = s'} t' A' n' B' f' C' h') =
        let R = one_constant B B' in
        let S = one_type C C' in
        let et = ap (λ z. common z t) R.type ∙ ap (common s') (one_integer t t' S.type) in
        record { type = et; value = one_becoming h h' et R.value }
    one_constant (constant_second t A n B f C h) (constant_third s' A' f' C' B' h') = let Q = one_constant A A' in absurd (n Q.value)
    one_constant (constant_third s A f C B h) (constant_second t' A' n' B' f' C' h') = let Q = one_constant A A' in absurd (n' (sym Q.value))
    one_constant (constant_third s {t = t} A f C B h) (constant_third s' {t = t'} A' f' C' B' h') =
        let R = one_constant B B' in
        let S = one_type C C' in
        let et = ap (λ z. common z t) (one_integer s s' S.type) ∙ ap (common s') R.type in
        record { type = et; value = one_becoming h h' et R.value }
