-- A statement has one list of pairs, and a definition has one typing.
use Rattle.std.proofs.Common.{◌≡◌, ℕ, List, [], ◌∷◌, ◌++◌, map, flat_map, cond, ◌==◌, Option, Some, None, IsSome, false, refl, sym, ap, ◌∙◌, subst}
use Rattle.std.specs.Prelude.{ℤ}
use Rattle.std.proofs.lemmas.List.Elements.{All-head}
use Rattle.po_arith.specs.declared.int_type.IntType.{IntType}
use Rattle.po_tree.specs.declared.expression.Exp.{Exp}
use Rattle.po_tree.specs.declared.expression.Declarator.{Declarator}
use Rattle.po_tree.specs.declared.expression.Param.{Param, out-Param}
use Rattle.po_tree.specs.declared.declaration.Init.{Init, out-Init}
use Rattle.po_tree.specs.declared.declaration.Init.TheOpen.{Init-F}
use Rattle.po_tree.specs.declared.declaration.Decl.{Decl}
use Rattle.po_tree.specs.declared.statement.Stmt.{Stmt}
use Rattle.po_tree.specs.declared.statement.Stmt.TheOpen.{Stmt-F}
use Rattle.po_tree.specs.declared.function.FunTree.{FunTree}
use Rattle.po_types.specs.declared.ctype.CType.{CType}
use Rattle.po_types.specs.declared.ctype.CType.TheVariants as c
use Rattle.po_types.specs.Integers.{promoted}
use Rattle.po_types.specs.Laws.{OneFormat, OneLayout}
use Rattle.po_typed.specs.Scopes.{Context, Storage, automatic, in_register, in_static, local, with_word, in_new_block, back_in}
use Rattle.po_typed.specs.BaseTypes.{starred}
use Rattle.po_typed.specs.Expressions.{Pair}
use Rattle.po_typed.specs.Initialisers.{Place, static_place, automatic_place, Initialises}
use Rattle.po_typed.specs.Declarations.{IsVoidAlone, void_word, void_name, File, with_context}
use Rattle.po_typed.specs.Environments.{IsTyping}
use Rattle.po_typed.specs.declared.typed.TypedFun.{TypedFun}
use Rattle.po_typed.specs.Statements.{Around, in_switch, own_labels, StoredAs, stored_in_block, stored_auto, stored_register, stored_static, ShapesHere, plain_here, array_here, Locals, no_more_locals, plain_local, initialised_local, DeclaredHere, declared_here, AllInitialised, IsUnused, Controls, MaybeUnused, nothing_unused, something_unused, MaybeControls, nothing_controls, something_controls, no_block_layer, Runs, block, expression, empty, if_alone, if_else, switch_block, switch_other, case, default, label, while, do_while, for_nothing, for_value, for_variables, goto, continue, break, return_nothing, return_value, Items, no_more_items, statement, declaration, declaration_without, AllNamed, Receives, receives_nothing, receives_void, receives_params, NamesFunction, function_new, function_again, atop, around_body, Defines, defines}
use Rattle.po_lists.proofs.Options.{one_some}
use Rattle.po_typed.proofs.OneType.{found_or_not, one_integer, one_tested}
use Rattle.po_typed.proofs.OneBase.{one_base}
use Rattle.po_typed.proofs.OneForm.{SameNamed, joined, sizes_of, array_as, one_becoming}
use Rattle.po_typed.proofs.OneExpression.{one_type, one_operand, one_assigned, one_array, one_constant}
use Rattle.po_typed.proofs.OneInitialiser.{one_initialised}
use Rattle.po_typed.proofs.OneSpecifier.{SameBehind, storage_is_one, some_is_not_none, one_specified}
use Rattle.po_typed.proofs.OneDeclaration.{SameList, initialises_as, one_listed, params_in}

-- the cases and defaults of a statement, and its pairs
pub record SameRun (marks : List (Option ℤ)) (ps : List Pair) (others : List (Option ℤ)) (qs : List Pair) : Type 0 where
  pub cases : marks ≡ others
  pub pairs : ps ≡ qs

-- the file behind a definition, and its pairs
pub record SameDefinition (f : File) (ps : List Pair) (g : File) (qs : List Pair) : Type 0 where
  pub file : f ≡ g
  pub pairs : ps ≡ qs

abbrev storage_of : Option (List ℕ) → Storage
storage_of (Some (x ∷ xs)) = cond (x == 97) automatic (cond (x == 114) in_register in_static)
storage_of _ = automatic

abbrev place_of : Storage → Place
place_of in_static = static_place
place_of _ = automatic_place

is_stored : {class : Option (List ℕ)} {storage : Storage} {place : Place} → StoredAs class storage place → storage ≡ storage_of class
is_stored stored_in_block = refl
is_stored stored_auto = refl
is_stored stored_register = refl
is_stored stored_static = refl

is_placed : {class : Option (List ℕ)} {storage : Storage} {place : Place} → StoredAs class storage place → place ≡ place_of storage
is_placed stored_in_block = refl
is_placed stored_auto = refl
is_placed stored_register = refl
is_placed stored_static = refl

abbrev IsNoDeclaration : Stmt-F Stmt → Type 0
IsNoDeclaration (Stmt-F.Declare d) = ⊥
IsNoDeclaration _ = Unit {0}

abbrev block_in : List Stmt → Stmt-F Stmt → List Stmt
block_in d (Stmt-F.Block xs) = xs
block_in d _ = d

abbrev declared_in : Stmt-F Stmt → Option Decl
declared_in (Stmt-F.Declare d) = Some d
declared_in _ = None

runs_no_declaration : {ctx : Context} {w : Around} {targets : List (List ℕ)} {l : Stmt-F Stmt} {marks : List (Option ℤ)} {ps : List Pair} → Runs ctx w targets l marks ps → IsNoDeclaration l
runs_no_declaration (block A) = tt
runs_no_declaration (expression A) = tt
runs_no_declaration empty = tt
runs_no_declaration (if_alone C A) = tt
runs_no_declaration (if_else C A B) = tt
runs_no_declaration (switch_block t q C A n) = tt
runs_no_declaration (switch_other t q C A) = tt
runs_no_declaration (case h A C b B) = tt
runs_no_declaration (default h A) = tt
runs_no_declaration (label A) = tt
runs_no_declaration (while C A) = tt
runs_no_declaration (do_while A C) = tt
runs_no_declaration (for_nothing C S A) = tt
runs_no_declaration (for_value F C S A) = tt
runs_no_declaration (for_variables D C S A) = tt
runs_no_declaration (goto h) = tt
runs_no_declaration (continue h) = tt
runs_no_declaration (break h) = tt
runs_no_declaration (return_nothing h) = tt
runs_no_declaration (return_value h A) = tt

-- a derivation of what is equal
locals_as : {ctx ctx' a : Context} {storage storage' : Storage} {place place' : Place} {base base' : CType} {parts : List (Declarator × Option Init)} {ps : List Pair} →
    Locals ctx' storage' place' base' parts a ps → ctx ≡ ctx' → storage ≡ storage' → place ≡ place' → base ≡ base' → Locals ctx storage place base parts a ps
locals_as {ctx' = ctx'} {a = a} {storage = storage} {storage' = storage'} {place = place} {place' = place'} {base = base} {parts = parts} {ps = ps} A e f g h =
    subst (λ z. Locals z storage place base parts a ps) (sym e) (subst (λ z. Locals ctx' z place base parts a ps) (sym f)
    (subst (λ z. Locals ctx' storage' z base parts a ps) (sym g) (subst (λ z. Locals ctx' storage' place' z parts a ps) (sym h) A)))

initialiser_as : {ctx : Context} {place : Place} {t v : CType} {l m : Init-F Init} {ps : List Pair} → Initialises ctx place t m v ps → l ≡ m → Initialises ctx place t l v ps
initialiser_as {ctx = ctx} {place = place} {t = t} {v = v} {ps = ps} A e = subst (λ z. Initialises ctx place t z v ps) (sym e) A

declared_as : {allowed : List (List ℕ)} {ctx a : Context} {d d' : Decl} {ps : List Pair} → DeclaredHere allowed ctx d' a ps → d ≡ d' → DeclaredHere allowed ctx d a ps
declared_as {allowed = allowed} {ctx = ctx} {a = a} {ps = ps} A e = subst (λ z. DeclaredHere allowed ctx z a ps) (sym e) A

maybe_unused_in : {ctx ctx' : Context} {x : Option Exp} {ps : List Pair} → MaybeUnused ctx' x ps → ctx ≡ ctx' → MaybeUnused ctx x ps
maybe_unused_in {x = x} {ps = ps} A e = subst (λ z. MaybeUnused z x ps) (sym e) A

maybe_controls_in : {ctx ctx' : Context} {x : Option Exp} {ps : List Pair} → MaybeControls ctx' x ps → ctx ≡ ctx' → MaybeControls ctx x ps
maybe_controls_in {x = x} {ps = ps} A e = subst (λ z. MaybeControls z x ps) (sym e) A

runs_in : {ctx ctx' : Context} {w : Around} {targets : List (List ℕ)} {l : Stmt-F Stmt} {marks : List (Option ℤ)} {ps : List Pair} → Runs ctx' w targets l marks ps → ctx ≡ ctx' →
    Runs ctx w targets l marks ps
runs_in {w = w} {targets = targets} {l = l} {marks = marks} {ps = ps} A e = subst (λ z. Runs z w targets l marks ps) (sym e) A

items_as : {ctx ctx' : Context} {w w' : Around} {targets behind : List (List ℕ)} {xs : List Stmt} {marks : List (Option ℤ)} {ps : List Pair} → Items ctx' w' targets behind xs marks ps →
    ctx ≡ ctx' → w ≡ w' → Items ctx w targets behind xs marks ps
items_as {ctx' = ctx'} {w = w} {targets = targets} {behind = behind} {xs = xs} {marks = marks} {ps = ps} A e f =
    subst (λ z. Items z w targets behind xs marks ps) (sym e) (subst (λ z. Items ctx' z targets behind xs marks ps) (sym f) A)

switched_as : {ctx : Context} (w : Around) (targets : List (List ℕ)) {xs ys : List Stmt} {marks : List (Option ℤ)} {ps : List Pair} (t u : IntType) →
    Items (in_new_block ctx) (in_switch (Some (promoted u)) w) (flat_map own_labels ys ++ targets) [] ys marks ps → t ≡ u → xs ≡ ys →
    Items (in_new_block ctx) (in_switch (Some (promoted t)) w) (flat_map own_labels xs ++ targets) [] xs marks ps
switched_as {ctx = ctx} w targets {xs = xs} {marks = marks} {ps = ps} t u A e f =
    subst (λ z. Items (in_new_block ctx) (in_switch (Some (promoted z)) w) (flat_map own_labels xs ++ targets) [] xs marks ps) (sym e)
    (subst (λ z. Items (in_new_block ctx) (in_switch (Some (promoted u)) w) (flat_map own_labels z ++ targets) [] z marks ps) (sym f) A)

-- `(void)` has no names
void_is_unnamed : {A : Type 0} {ctx : Context} {params : List Param} → IsVoidAlone ctx params → AllNamed params → A
void_is_unnamed (void_word {x = x} e b) h = some_is_not_none (All-head (λ z. IsSome (out-Param z).declarator.name) x [] h) b.unnamed
void_is_unnamed (void_name {x = x} name e b m) h = some_is_not_none (All-head (λ z. IsSome (out-Param z).declarator.name) x [] h) b.unnamed

one_name : {ctx a b : Context} {name : List ℕ} {t : CType} → NamesFunction ctx name t a → NamesFunction ctx name t b → a ≡ b
one_name (function_new h) (function_new h') = refl
one_name (function_new h) (function_again h') = found_or_not h' h
one_name (function_again h) (function_new h') = found_or_not h h'
one_name (function_again h) (function_again h') = refl

names_function_as : {ctx ctx' a : Context} {name name' : List ℕ} {t t' : CType} → NamesFunction ctx' name' t' a → ctx ≡ ctx' → name ≡ name' → t ≡ t' → NamesFunction ctx name t a
names_function_as {ctx' = ctx'} {a = a} {name = name} {name' = name'} {t = t} A e f g =
    subst (λ z. NamesFunction z name t a) (sym e) (subst (λ z. NamesFunction ctx' z t a) (sym f) (subst (λ z. NamesFunction ctx' name' z a) (sym g) A))

receives_as : {ctx ctx' a : Context} {params others : List Param} {ts : List CType} {ps : List Pair} → Receives ctx' others ts a ps → ctx ≡ ctx' → params ≡ others → Receives ctx params ts a ps
receives_as {ctx' = ctx'} {a = a} {params = params} {ts = ts} {ps = ps} A e f = subst (λ z. Receives z params ts a ps) (sym e) (subst (λ z. Receives ctx' z ts a ps) (sym f) A)

module _ (one_format : OneFormat) where
  one_here : (ctx : Context) {base : CType} {d : Declarator} {t u : CType} {ps qs : List Pair} → ShapesHere ctx base d t ps → ShapesHere ctx base d u qs → SameNamed t ps u qs
  one_here ctx (plain_here q k) (plain_here q' k') = record { type = refl; pairs = refl }
  one_here ctx (plain_here q k) (array_here q' k' A) = found_or_not (ap sizes_of q') (ap sizes_of q)
  one_here ctx (array_here q k A) (plain_here q' k') = found_or_not (ap sizes_of q) (ap sizes_of q')
  one_here ctx (array_here q k A) (array_here q' k' A') = one_array one_format ctx A (array_as ctx A' (one_some (ap sizes_of q) (ap sizes_of q'))) refl

  one_locals : {ctx a b : Context} {storage : Storage} {place : Place} {base : CType} {parts : List (Declarator × Option Init)} {ps qs : List Pair} → Locals ctx storage place base parts a ps →
      Locals ctx storage place base parts b qs → SameBehind a ps b qs
  one_locals no_more_locals no_more_locals = record { context = refl; pairs = refl }
  one_locals {ctx = ctx} {storage = storage} (plain_local {t = t} {name = name} i q H n k A) (plain_local {t = t'} {name = name'} i' q' H' n' k' A') =
      let Q = one_here ctx H H' in
      let R = one_locals A (locals_as A' (ap (λ z. with_word z (local storage t) ctx) (one_some q q') ∙ ap (λ z. with_word name' (local storage z) ctx) Q.type) refl refl refl) in
      record { context = R.context; pairs = joined Q.pairs R.pairs }
  one_locals (plain_local i q H n k A) (initialised_local i' q' H' n' I' k' A') = found_or_not i' i
  one_locals (initialised_local i q H n I k A) (plain_local i' q' H' n' k' A') = found_or_not i i'
  one_locals {ctx = ctx} {storage = storage} {place = place} (initialised_local {t = t} {u = u} {name = name} i q H n I k A) (initialised_local {t = t'} {u = u'} {name = name'} i' q' H' n' I' k' A') =
      let Q = one_here ctx H H' in
      let en = one_some q q' in
      let ex = ap out-Init (one_some i i') in
      let ec = ap (λ z. with_word z (local storage t) ctx) en ∙ ap (λ z. with_word name' (local storage z) ctx) Q.type in
      let S = one_initialised one_format (with_word name (local storage t) ctx) place I (initialiser_as (initialises_as I' ec Q.type) ex) in
      let R = one_locals A (locals_as A' (ap (λ z. with_word z (local storage u) ctx) en ∙ ap (λ z. with_word name' (local storage z) ctx) S.type) refl refl refl) in
      record { context = R.context; pairs = joined Q.pairs (joined S.pairs R.pairs) }

  one_declared_here : {allowed : List (List ℕ)} {ctx a b : Context} {d : Decl} {ps qs : List Pair} → DeclaredHere allowed ctx d a ps → DeclaredHere allowed ctx d b qs → SameBehind a ps b qs
  one_declared_here (declared_here n w h s B r A) (declared_here n' w' h' s' B' r' A') =
      let es = is_stored s ∙ ap storage_of (storage_is_one h h') ∙ sym (is_stored s') in
      one_locals A (locals_as A' refl es (is_placed s ∙ ap place_of es ∙ sym (is_placed s')) (one_base B B'))

  one_unused : (ctx : Context) (x : Exp) {ps qs : List Pair} → IsUnused ctx x ps → IsUnused ctx x qs → ps ≡ qs
  one_unused ctx x p q = let Q = one_operand one_format ctx p.1 q.1 in Q.pairs refl

  one_control : (ctx : Context) (x : Exp) {ps qs : List Pair} → Controls ctx x ps → Controls ctx x qs → ps ≡ qs
  one_control ctx x p q = let Q = one_operand one_format ctx p.3 q.3 in Q.pairs (one_tested p.2 q.2 Q.type)

  one_maybe_unused : {ctx : Context} {x : Option Exp} {ps qs : List Pair} → MaybeUnused ctx x ps → MaybeUnused ctx x qs → ps ≡ qs
  one_maybe_unused nothing_unused nothing_unused = refl
  one_maybe_unused {ctx = ctx} (something_unused {x = x} p) (something_unused q) = one_unused ctx x p q

  one_maybe_control : {ctx : Context} {x : Option Exp} {ps qs : List Pair} → MaybeControls ctx x ps → MaybeControls ctx x qs → ps ≡ qs
  one_maybe_control nothing_controls nothing_controls = refl
  one_maybe_control {ctx = ctx} (something_controls {x = x} p) (something_controls q) = one_control ctx x p q

  mutual
    pub one_run : {ctx : Context} {w : Around} {targets : List (List ℕ)} {l : Stmt-F Stmt} {marks others : List (Option ℤ)} {ps qs : List Pair} → Runs ctx w targets l marks ps →
        Runs ctx w targets l others qs → SameRun marks ps others qs
    one_run (block A) (block A') = let Q = one_items A A' in record { cases = refl; pairs = Q.pairs }
    one_run {ctx = ctx} (expression {x = x} A) (expression A') = record { cases = refl; pairs = one_unused ctx x A A' }
    one_run empty empty = record { cases = refl; pairs = refl }
    one_run {ctx = ctx} (if_alone {x = x} C A) (if_alone C' A') = let Q = one_run A A' in record { cases = refl; pairs = joined (one_control ctx x C C') Q.pairs }
    one_run {ctx = ctx} (if_else {x = x} C A B) (if_else C' A' B') =
        let Q = one_run A A' in let R = one_run B B' in record { cases = refl; pairs = joined (one_control ctx x C C') (joined Q.pairs R.pairs) }
    one_run {ctx = ctx} {w = w} {targets = targets} (switch_block t {xs = xs} q C A n) (switch_block t' q' C' A' n') =
        let O = one_operand one_format ctx C C' in
        let et = one_integer t t' O.type in
        let Q = one_items A (switched_as w targets t t' A' et (ap (block_in xs) (sym q ∙ q'))) in
        record { cases = refl; pairs = joined (O.pairs (ap (λ z. c.Int (promoted z)) et)) Q.pairs }
    one_run {ctx = ctx} (switch_other t n C A) (switch_other t' n' C' A') =
        let O = one_operand one_format ctx C C' in
        let et = one_integer t t' O.type in
        let Q = one_run A A' in
        record { cases = refl; pairs = joined (O.pairs (ap (λ z. c.Int (promoted z)) et)) Q.pairs }
    one_run (switch_block t q C A n) (switch_other t' n' C' A') = absurd (subst no_block_layer q n')
    one_run (switch_other t n C A) (switch_block t' q C' A' n') = absurd (subst no_block_layer q n)
    one_run {ctx = ctx} (case {t = t} {n = n} {marks = marks} h A C b B) (case {t = t'} {n = n'} h' A' C' b' B') =
        let et = one_some h h' in
        let O = one_type one_format ctx A A' in
        let K = one_constant one_format ctx C C' in
        let Q = one_run B B' in
        record {
          cases = ap (λ z. Some z ∷ marks) (one_becoming b b' et K.value) ∙ ap (λ z. Some n' ∷ z) Q.cases;
          pairs = joined (O.pairs (ap c.Int et)) Q.pairs;
        }
    one_run (default h A) (default h' A') = let Q = one_run A A' in record { cases = ap (λ z. None ∷ z) Q.cases; pairs = Q.pairs }
    one_run (label A) (label A') = one_run A A'
    one_run {ctx = ctx} (while {x = x} C A) (while C' A') = let Q = one_run A A' in record { cases = refl; pairs = joined (one_control ctx x C C') Q.pairs }
    one_run {ctx = ctx} (do_while {x = x} A C) (do_while A' C') = let Q = one_run A A' in record { cases = refl; pairs = joined Q.pairs (one_control ctx x C C') }
    one_run (for_nothing C S A) (for_nothing C' S' A') =
        let Q = one_run A A' in record { cases = refl; pairs = joined (one_maybe_control C C') (joined (one_maybe_unused S S') Q.pairs) }
    one_run {ctx = ctx} (for_value {x = x} F C S A) (for_value F' C' S' A') =
        let Q = one_run A A' in record { cases = refl; pairs = joined (one_unused ctx x F F') (joined (one_maybe_control C C') (joined (one_maybe_unused S S') Q.pairs)) }
    one_run (for_variables D C S A) (for_variables D' C' S' A') =
        let V = one_declared_here D D' in
        let Q = one_run A (runs_in A' V.context) in
        record {
          cases = refl;
          pairs = joined V.pairs (joined (one_maybe_control C (maybe_controls_in C' V.context)) (joined (one_maybe_unused S (maybe_unused_in S' V.context)) Q.pairs));
        }
    one_run (goto h) (goto h') = record { cases = refl; pairs = refl }
    one_run (continue h) (continue h') = record { cases = refl; pairs = refl }
    one_run (break h) (break h') = record { cases = refl; pairs = refl }
    one_run (return_nothing h) (return_nothing h') = record { cases = refl; pairs = refl }
    one_run {ctx = ctx} (return_value h A) (return_value h' A') = record { cases = refl; pairs = one_assigned one_format ctx A A' }

    pub one_items : {ctx : Context} {w : Around} {targets behind : List (List ℕ)} {xs : List Stmt} {marks others : List (Option ℤ)} {ps qs : List Pair} → Items ctx w targets behind xs marks ps →
        Items ctx w targets behind xs others qs → SameRun marks ps others qs
    one_items no_more_items no_more_items = record { cases = refl; pairs = refl }
    one_items (statement {marks = marks} {others = others} A B) (statement {marks = marks'} A' B') =
        let Q = one_run A A' in
        let R = one_items B B' in
        record { cases = ap (λ z. z ++ others) Q.cases ∙ ap (λ z. marks' ++ z) R.cases; pairs = joined Q.pairs R.pairs }
    one_items (statement A B) (declaration q D h B') = absurd (subst IsNoDeclaration q (runs_no_declaration A))
    one_items (statement A B) (declaration_without q D h B') = absurd (subst IsNoDeclaration q (runs_no_declaration A))
    one_items (declaration q D h B) (statement A' B') = absurd (subst IsNoDeclaration q (runs_no_declaration A'))
    one_items (declaration_without q D h B) (statement A' B') = absurd (subst IsNoDeclaration q (runs_no_declaration A'))
    one_items (declaration q D h B) (declaration q' D' h' B') =
        let V = one_declared_here D (declared_as D' (one_some (ap declared_in q) (ap declared_in q'))) in
        let R = one_items B (items_as B' V.context refl) in
        record { cases = R.cases; pairs = joined V.pairs R.pairs }
    one_items (declaration_without q D h B) (declaration_without q' D' h' B') =
        let V = one_declared_here D (declared_as D' (one_some (ap declared_in q) (ap declared_in q'))) in
        let R = one_items B (items_as B' V.context refl) in
        record { cases = R.cases; pairs = joined V.pairs R.pairs }
    one_items (declaration q D h B) (declaration_without q' D' h' B') = absurd (h' (subst AllInitialised (one_some (ap declared_in q) (ap declared_in q')) h))
    one_items (declaration_without q D h B) (declaration q' D' h' B') = absurd (h (subst AllInitialised (one_some (ap declared_in q') (ap declared_in q)) h'))

module _ (one_format : OneFormat) (one_layout : OneLayout) where
  one_received : {ctx a b : Context} {params : List Param} {ts us : List CType} {ps qs : List Pair} → Receives ctx params ts a ps → Receives ctx params us b qs → SameList ts a ps us b qs
  one_received receives_nothing receives_nothing = record { types = refl; context = refl; pairs = refl }
  one_received receives_nothing (receives_params n h L) = absurd (n refl)
  one_received (receives_params n h L) receives_nothing = absurd (n refl)
  one_received receives_nothing (receives_void v) = record { types = refl; context = refl; pairs = refl }
  one_received (receives_void v) receives_nothing = record { types = refl; context = refl; pairs = refl }
  one_received (receives_void v) (receives_void v') = record { types = refl; context = refl; pairs = refl }
  one_received (receives_void v) (receives_params n h L) = void_is_unnamed v h
  one_received (receives_params n h L) (receives_void v) = void_is_unnamed v h
  one_received (receives_params n h L) (receives_params n' h' L') = one_listed one_format one_layout L L'

  pub one_definition : {file f g : File} {tree : FunTree} {ps qs : List Pair} → Defines file tree f ps → Defines file tree g qs → SameDefinition f ps g qs
  one_definition {file = file} {tree = tree} (defines {mid = mid} {inner = inner} {outer = outer} {base = base} {ts = ts} n s w h S k r R N l I)
      (defines {mid = mid'} {inner = inner'} {outer = outer'} {base = base'} {ts = ts'} n' s' w' h' S' k' r' R' N' l' I') =
      let Q = one_specified one_format one_layout S S' in
      let L = one_received R (receives_as R' Q.context (one_some (ap params_in s) (ap params_in s'))) in
      let eb = ap (λ z. starred z tree.declarator.stars) Q.type in
      let et = ap (λ z. c.Fun z ts false) eb ∙ ap (λ z. c.Fun (starred base' tree.declarator.stars) z false) L.types in
      let eo = one_name N (names_function_as N' (ap (λ z. back_in z inner) Q.context ∙ ap (back_in mid') L.context) (one_some n n') et) in
      let B = one_items one_format I (items_as I' (ap (λ z. atop z outer) L.context ∙ ap (atop inner') eo) (ap around_body eb)) in
      record { file = ap (with_context file) eo; pairs = joined Q.pairs (joined L.pairs B.pairs) }

  tree_as : {file f : File} {tree other : FunTree} {ps : List Pair} → Defines file other f ps → tree ≡ other → Defines file tree f ps
  tree_as {file = file} {f = f} {ps = ps} D e = subst (λ z. Defines file z f ps) (sym e) D

  pub one_typing_of_definition : {file : File} (f g : TypedFun) (d : IsTyping file f) (e : IsTyping file g) → f.tree ≡ g.tree → (f ≡ g) × (d.behind ≡ e.behind)
  one_typing_of_definition f g d e q =
      let S = one_definition d.defines (tree_as e.defines q) in
      let types : f.types ≡ g.types = d.types ∙ ap (map (λ p. p.type)) S.pairs ∙ sym e.types in
      let conversions : f.conversions ≡ g.conversions = d.conversions ∙ ap (map (λ p. p.conversion)) S.pairs ∙ sym e.conversions in
      let typed : FunTree → List CType → List CType → TypedFun = λ tree types conversions. record { tree = tree; types = types; conversions = conversions } in
      (ap (λ z. typed z f.types f.conversions) q ∙ ap (λ z. typed g.tree z f.conversions) types ∙ ap (typed g.tree g.types) conversions, S.file)
