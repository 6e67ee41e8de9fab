-- What is in force stays founded where words, tags and structs are added.
use Rattle.std.proofs.Common.{◌≡◌, ◌≢◌, ℕ, zero, suc, ◌≤◌, ◌<◌, ◌+◌, ◌-◌, List, [], ◌∷◌, ◌++◌, length, get_or, set, cond, Option, Some, None, IsSome, Bool, true, false, refl, sym, ap, ◌∙◌, subst, ◌⊎◌, inl, inr, arith, All}
use Rattle.std.specs.Prelude.{IfSome, nat_eq, is_some}
use Rattle.std.specs.Cmp.Lexicographic.{pointwise}
use Rattle.std.specs.Map.{set_value, lookup}
use Rattle.std.proofs.lemmas.Bool.{cases_Bool, cases_lt}
use Rattle.std.proofs.lemmas.List.{length-append, length-set, get_or_append_left, get_or-append_right, get_or-set_same, get_or-set_other, get_or_past}
use Rattle.std.proofs.lemmas.List.Elements.{All-nil, All-cons, All-head, All-tail, All-weaker, All-push}
use Rattle.std.proofs.lemmas.Map.Entries.{All-lookup}
use Rattle.po_types.specs.declared.ctype.CType.{CType}
use Rattle.po_types.specs.declared.layout.Layout.{Layout}
use Rattle.po_types.specs.Tables.{found}
use Rattle.po_types.specs.Nesting.{structs_below}
use Rattle.po_typed.specs.Scopes.{Meaning, Tag, struct_tag, enum_tag, Block, no_block, Context, first_of, word_in, tag_in, meaning, tag_meaning, word_here, tag_here, within_innermost, with_blocks, with_word, with_tag, in_new_block, back_in, with_struct, next_struct, completed}
use Rattle.po_typed.specs.Declarations.{retold, with_new_struct}
use Rattle.po_typed.specs.Founded.{meaning_below, HasTag, WordsFit, TagsFit, IsFounded}

-- structs are only added, and keep their tags
pub record Grows (a b : Context) : Type 0 where
  pub longer : length a.structs ≤ length b.structs
  pub kept : (n : ℕ) → IsSome (get_or a.names n None) → IsSome (get_or b.names n None)

pub record Keeps (a b : Context) : Type 0 where
  pub founded : IsFounded b
  pub grows : Grows a b

pub unchanged : {a : Context} → IsFounded a → Keeps a a
unchanged f = record { founded = f; grows = record { longer = omega arith; kept = λ n h. h } }

pub grows_then : {a b d : Context} → Grows a b → Grows b d → Grows a d
grows_then f g = record { longer = omega (arith, f.longer, g.longer); kept = λ n h. g.kept n (f.kept n h) }

pub keeps_then : {a b d : Context} → Keeps a b → Keeps b d → Keeps a d
keeps_then f g = record { founded = g.founded; grows = grows_then f.grows g.grows }

first_fits : {A : Type 0} (P : A → Type 0) (x y : Option A) → IfSome x P → IfSome y P → IfSome (first_of x y) P
first_fits P None y h k = k
first_fits P (Some x) y h k = h

some_fits : {A : Type 0} (P : A → Type 0) {x : Option A} {y : A} → IfSome x P → x ≡ Some y → P y
some_fits P h e = subst (λ z. IfSome z P) e h

module _ (name : List ℕ) where
  word_fits : (count : ℕ) (blocks : List Block) → All (WordsFit count) blocks → IfSome (word_in blocks name) (λ m. meaning_below m ≤ count)
  word_fits count [] h = tt
  word_fits count (b ∷ bs) h = first_fits (λ m. meaning_below m ≤ count) (found b.words name) (word_in bs name)
      (All-lookup (λ m. meaning_below m ≤ count) (pointwise nat_eq name) b.words (All-head (WordsFit count) b bs h)) (word_fits count bs (All-tail (WordsFit count) b bs h))

  tag_fits : (names : List (Option (List ℕ))) (blocks : List Block) → All (TagsFit names) blocks → IfSome (tag_in blocks name) (HasTag names)
  tag_fits names [] h = tt
  tag_fits names (b ∷ bs) h = first_fits (HasTag names) (found b.tags name) (tag_in bs name)
      (All-lookup (HasTag names) (pointwise nat_eq name) b.tags (All-head (TagsFit names) b bs h)) (tag_fits names bs (All-tail (TagsFit names) b bs h))

  word_here_fits : (count : ℕ) (blocks : List Block) → All (WordsFit count) blocks → IfSome (word_here blocks name) (λ m. meaning_below m ≤ count)
  word_here_fits count [] h = tt
  word_here_fits count (b ∷ bs) h = All-lookup (λ m. meaning_below m ≤ count) (pointwise nat_eq name) b.words (All-head (WordsFit count) b bs h)

  tag_here_fits : (names : List (Option (List ℕ))) (blocks : List Block) → All (TagsFit names) blocks → IfSome (tag_here blocks name) (HasTag names)
  tag_here_fits names [] h = tt
  tag_here_fits names (b ∷ bs) h = All-lookup (HasTag names) (pointwise nat_eq name) b.tags (All-head (TagsFit names) b bs h)

pub meaning_fits : {ctx : Context} (name : List ℕ) {m : Meaning} → IsFounded ctx → meaning ctx name ≡ Some m → meaning_below m ≤ length ctx.structs
meaning_fits {ctx = ctx} name f e = some_fits (λ z. meaning_below z ≤ length ctx.structs) (word_fits name (length ctx.structs) ctx.blocks f.words) e

pub meaning_here_fits : {ctx : Context} (name : List ℕ) {m : Meaning} → IsFounded ctx → word_here ctx.blocks name ≡ Some m → meaning_below m ≤ length ctx.structs
meaning_here_fits {ctx = ctx} name f e = some_fits (λ z. meaning_below z ≤ length ctx.structs) (word_here_fits name (length ctx.structs) ctx.blocks f.words) e

-- a number with a tag is one of a struct
pub within : (ctx : Context) (n : ℕ) → IsFounded ctx → IsSome (get_or ctx.names n None) → n < length ctx.structs
within ctx n f h = elim (cases_lt n (length ctx.names)) [
  | inl lt ↦ subst (λ z. n < z) f.named lt
  | inr ge ↦ absurd (never (ap is_some (sym (get_or_past ctx.names n None ge)) ∙ h))
]
  where
    never : false ≡ true → ⊥
    never q = absurd cc

pub tag_is_there : {ctx : Context} (tag : List ℕ) {n : ℕ} → IsFounded ctx → tag_meaning ctx tag ≡ Some (struct_tag n) → suc n ≤ length ctx.structs
tag_is_there {ctx = ctx} tag {n = n} f e = within ctx n f (some_fits (HasTag ctx.names) (tag_fits tag ctx.names ctx.blocks f.tags) e)

pub tag_here_is_there : {ctx : Context} (tag : List ℕ) {n : ℕ} → IsFounded ctx → tag_here ctx.blocks tag ≡ Some (struct_tag n) → IsSome (get_or ctx.names n None)
tag_here_is_there {ctx = ctx} tag f e = some_fits (HasTag ctx.names) (tag_here_fits tag ctx.names ctx.blocks f.tags) e

-- the innermost scope changed
innermost_fits : (P : Block → Type 0) (g : Block → Block) (blocks : List Block) → ((b : Block) → P b → P (g b)) → All P blocks → All P (within_innermost g blocks)
innermost_fits P g [] k h = h
innermost_fits P g (b ∷ bs) k h = All-cons P (g b) bs (k b (All-head P b bs h)) (All-tail P b bs h)

pub keeps_word : {ctx : Context} (name : List ℕ) (m : Meaning) → IsFounded ctx → meaning_below m ≤ length ctx.structs → Keeps ctx (with_word name m ctx)
keeps_word {ctx = ctx} name m f h = record {
  founded = record {
    named = f.named;
    listed = f.listed;
    words = innermost_fits (WordsFit (length ctx.structs)) (λ b. record { words = b.words ++ (name, m) ∷ []; tags = b.tags }) ctx.blocks
        (λ b k. All-push (λ w. meaning_below w.1 ≤ length ctx.structs) b.words (name, m) k h) f.words;
    tags = innermost_fits (TagsFit ctx.names) (λ b. record { words = b.words ++ (name, m) ∷ []; tags = b.tags }) ctx.blocks (λ b k. k) f.tags;
    untagged = f.untagged;
  };
  grows = record { longer = omega arith; kept = λ n k. k };
}

pub keeps_tag : {ctx : Context} (name : List ℕ) (t : Tag) → IsFounded ctx → HasTag ctx.names t → Keeps ctx (with_tag name t ctx)
keeps_tag {ctx = ctx} name t f h = record {
  founded = record {
    named = f.named;
    listed = f.listed;
    words = innermost_fits (WordsFit (length ctx.structs)) (λ b. record { words = b.words; tags = b.tags ++ (name, t) ∷ [] }) ctx.blocks (λ b k. k) f.words;
    tags = innermost_fits (TagsFit ctx.names) (λ b. record { words = b.words; tags = b.tags ++ (name, t) ∷ [] }) ctx.blocks
        (λ b k. All-push (λ x. HasTag ctx.names x.1) b.tags (name, t) k h) f.tags;
    untagged = f.untagged;
  };
  grows = record { longer = omega arith; kept = λ n k. k };
}

told_fits : (P : Meaning → Type 0) (test : List ℕ → Bool) (words : List (List ℕ × Meaning)) (m : Meaning) → P m → All (λ w. P w.1) words → All (λ w. P w.1) (set_value test words m)
told_fits P test [] m p h = h
told_fits P test (w ∷ ws) m p h = elim (cases_Bool (test w.0)) [
  | inl q ↦ rw q (All-cons (λ z. P z.1) (w.0, m) ws p (All-tail (λ z. P z.1) w ws h))
  | inr q ↦ rw q (All-cons (λ z. P z.1) w (set_value test ws m) (All-head (λ z. P z.1) w ws h) (told_fits P test ws m p (All-tail (λ z. P z.1) w ws h)))
]

pub keeps_retold : {ctx : Context} (name : List ℕ) (m : Meaning) → IsFounded ctx → meaning_below m ≤ length ctx.structs → Keeps ctx (retold name m ctx)
keeps_retold {ctx = ctx} name m f h = record {
  founded = record {
    named = f.named;
    listed = f.listed;
    words = innermost_fits (WordsFit (length ctx.structs)) (λ b. record { words = set_value (pointwise nat_eq name) b.words m; tags = b.tags }) ctx.blocks
        (λ b k. told_fits (λ z. meaning_below z ≤ length ctx.structs) (pointwise nat_eq name) b.words m h k) f.words;
    tags = innermost_fits (TagsFit ctx.names) (λ b. record { words = set_value (pointwise nat_eq name) b.words m; tags = b.tags }) ctx.blocks (λ b k. k) f.tags;
    untagged = f.untagged;
  };
  grows = record { longer = omega arith; kept = λ n k. k };
}

pub founded_inside : {ctx : Context} → IsFounded ctx → IsFounded (in_new_block ctx)
founded_inside {ctx = ctx} f = record {
  named = f.named;
  listed = f.listed;
  words = All-cons (WordsFit (length ctx.structs)) no_block ctx.blocks (All-nil (λ w. meaning_below w.1 ≤ length ctx.structs)) f.words;
  tags = All-cons (TagsFit ctx.names) no_block ctx.blocks (All-nil (λ x. HasTag ctx.names x.1)) f.tags;
  untagged = f.untagged;
}

-- a tag stays where structs are only added
tag_stays : {a b : Context} → Grows a b → (t : Tag) → HasTag a.names t → HasTag b.names t
tag_stays g (struct_tag n) h = g.kept n h
tag_stays g enum_tag h = tt

blocks_stay : {a b : Context} → Grows a b → (blocks : List Block) → All (WordsFit (length a.structs)) blocks × All (TagsFit a.names) blocks →
    All (WordsFit (length b.structs)) blocks × All (TagsFit b.names) blocks
blocks_stay {a = a} {b = b} g blocks h = (
  All-weaker (WordsFit (length a.structs)) (WordsFit (length b.structs))
      (λ x. All-weaker (λ w. meaning_below w.1 ≤ length a.structs) (λ w. meaning_below w.1 ≤ length b.structs) (λ w k. omega (arith, k, g.longer)) x.words) blocks h.0,
  All-weaker (TagsFit a.names) (TagsFit b.names) (λ x. All-weaker (λ z. HasTag a.names z.1) (λ z. HasTag b.names z.1) (λ z. tag_stays g z.1) x.tags) blocks h.1,
)

pub keeps_back : {ctx inner : Context} → IsFounded ctx → Keeps ctx inner → Keeps ctx (back_in ctx inner)
keeps_back {ctx = ctx} f k =
    let s = blocks_stay k.grows ctx.blocks (f.words, f.tags) in
    record { founded = record { named = k.founded.named; listed = k.founded.listed; words = s.0; tags = s.1; untagged = k.founded.untagged }; grows = record { longer = k.grows.longer; kept = k.grows.kept } }

abbrev pub MembersFit : ℕ → List (List ℕ × CType) → Type 0
MembersFit n ms = All (λ m. structs_below m.1 ≤ n) ms

-- a further struct
pub keeps_struct : {ctx : Context} (tag : Option (List ℕ)) → IsFounded ctx → Keeps ctx (with_struct tag ctx)
keeps_struct {ctx = ctx} tag f =
    let grows : Grows ctx (with_struct tag ctx) = record {
      longer = subst (λ z. length ctx.structs ≤ z) (sym (length-append ctx.structs (None ∷ []))) (omega arith);
      kept = λ n h. subst IsSome (sym (get_or_append_left ctx.names (tag ∷ []) None n (subst (λ z. n < z) (sym f.named) (within ctx n f h)))) h;
    } in
    let s = blocks_stay grows ctx.blocks (f.words, f.tags) in
    record {
      founded = record {
        named = length-append ctx.names (tag ∷ []) ∙ ap (λ z. z + 1) f.named ∙ sym (length-append ctx.structs (None ∷ []));
        listed = length-append ctx.members ([] ∷ []) ∙ ap (λ z. z + 1) f.listed ∙ sym (length-append ctx.structs (None ∷ []));
        words = s.0;
        tags = s.1;
        untagged = λ n h. elim (cases_lt n (length ctx.members)) [
          | inl lt ↦ subst (MembersFit n) (sym (get_or_append_left ctx.members ([] ∷ []) [] n lt))
              (f.untagged n (sym (get_or_append_left ctx.names (tag ∷ []) None n (subst (λ z. n < z) (f.listed ∙ sym f.named) lt)) ∙ h))
          | inr ge ↦ subst (MembersFit n) (sym (get_or-append_right ctx.members ([] ∷ []) (length ctx.members) n [] refl ge ∙ behind (n - length ctx.members))) (All-nil (λ m. structs_below m.1 ≤ n))
        ];
      };
      grows = grows;
    }
  where
    behind : (k : ℕ) → get_or {A = List (List ℕ × CType)} ([] ∷ []) k [] ≡ []
    behind zero = refl
    behind (suc k) = refl

-- it is the last one
pub longer_by_one : (ctx : Context) (tag : Option (List ℕ)) → suc (length ctx.structs) ≤ length (with_struct tag ctx).structs
longer_by_one ctx tag = subst (λ z. suc (length ctx.structs) ≤ z) (sym (length-append ctx.structs (None ∷ []))) (omega arith)

pub names_last : (names : List (Option (List ℕ))) (tag : List ℕ) → IsSome (get_or (names ++ Some tag ∷ []) (length names) None)
names_last [] tag = refl
names_last (x ∷ xs) tag = names_last xs tag

pub new_is_tagged : {ctx : Context} (tag : List ℕ) → IsFounded ctx → IsSome (get_or (ctx.names ++ Some tag ∷ []) (next_struct ctx) None)
new_is_tagged {ctx = ctx} tag f = subst (λ z. IsSome (get_or (ctx.names ++ Some tag ∷ []) z None)) f.named (names_last ctx.names tag)

pub keeps_new_struct : {ctx : Context} (tag : List ℕ) → IsFounded ctx → Keeps ctx (with_new_struct tag ctx)
keeps_new_struct {ctx = ctx} tag f =
    let K = keeps_struct (Some tag) f in
    keeps_then K (keeps_tag tag (struct_tag (next_struct ctx)) K.founded (new_is_tagged tag f))

-- a struct completed: of one without a tag the members name structs with lesser numbers
pub keeps_completed : {ctx : Context} (n : ℕ) (layout : Layout) (list : List (List ℕ × CType)) → IsFounded ctx → (get_or ctx.names n None ≡ None → MembersFit n list) →
    Keeps ctx (completed n layout list ctx)
keeps_completed {ctx = ctx} n layout list f k = record {
  founded = record {
    named = f.named ∙ sym (length-set ctx.structs n (Some layout));
    listed = length-set ctx.members n list ∙ f.listed ∙ sym (length-set ctx.structs n (Some layout));
    words = subst (λ z. All (WordsFit z) ctx.blocks) (sym (length-set ctx.structs n (Some layout))) f.words;
    tags = f.tags;
    untagged = λ m h. elim (same_or_other m n) [
      | inl e ↦ elim (cases_lt n (length ctx.members)) [
        | inl lt ↦ subst (λ z. MembersFit m (get_or (set ctx.members n list) z [])) (sym e) (subst (MembersFit m) (sym (get_or-set_same ctx.members n list [] lt))
            (subst (λ z. MembersFit z list) (sym e) (k (subst (λ z. get_or ctx.names z None ≡ None) e h))))
        | inr ge ↦ subst (MembersFit m) (sym (get_or_past (set ctx.members n list) m [] (subst (λ z. z ≤ m) (sym (length-set ctx.members n list)) (subst (λ z. length ctx.members ≤ z) (sym e) ge)))) (All-nil (λ x. structs_below x.1 ≤ m))
      ]
      | inr d ↦ subst (MembersFit m) (sym (get_or-set_other ctx.members n m list [] d)) (f.untagged m h)
    ];
  };
  grows = record { longer = subst (λ z. length ctx.structs ≤ z) (sym (length-set ctx.structs n (Some layout))) (omega arith); kept = λ m h. h };
}
  where
    same_or_other : (m n : ℕ) → (m ≡ n) ⊎ (m ≢ n)
    same_or_other m n = elim (cases_lt m n) [
      | inl lt ↦ inr (λ e. absurd (omega (arith, lt, e)))
      | inr ge ↦ elim (cases_lt n m) [
        | inl lt ↦ inr (λ e. absurd (omega (arith, lt, e)))
        | inr le ↦ inl (omega (arith, ge, le))
      ]
    ]
