-- Bases are ordered, and their join is the least upper bound.
use Rattle.std.specs.Prelude.{◌≡◌, ℕ, ◌<◌, ◌≤◌, min, nat_le, Bool, true, false, cond, List, length, Option, Some, None, ◌↔◌}
use Rattle.std.proofs.Common.{refl, sym, subst, arith, inl, inr}
use Rattle.std.proofs.lemmas.Bool.{cases_lt}
use Rattle.po_bases.specs.General.{IsJoin, IsPartialJoin, IfThere, BelowNone, both_join, AtLeast, at_least, alone, pairs, along, among, renamed, reordered, rejoined, up_to_none, limited}
use Rattle.po_bases.specs.Intervals.{intervals}
use Rattle.po_bases.specs.Maps.{merged, IsMap, MapBelow, maps, shorter}
use Rattle.po_bases.specs.Base.{base_cmp, base_total, base_same}
use Rattle.po_bases.specs.Bases.{IsGrain, IsEntry, EntryBelow, join_entries, entry_cmp, IsBases, BasesBelow, join_bases}
use Rattle.po_bases.specs.declared.base.Base.{Base}
use Rattle.po_bases.specs.declared.entry.Entry.{Entry}
use Rattle.po_bases.specs.declared.bases.Bases.{Bases}
use Rattle.po_bases.specs.declared.bases.Bases.TheVariants.{Known, Unknown}

-- the lesser of two is one of them
pub lesser_is : (P : ℕ → Type 0) (g h : ℕ) → P g → P h → P (min g h)
lesser_is P g h pg ph = elim (cases_lt g h) [
  | inl less ↦ let e : min g h ≡ g = omega arith in subst P (sym e) pg
  | inr more ↦ let e : min g h ≡ h = omega arith in subst P (sym e) ph
]

pub grains : IsJoin IsGrain AtLeast min
grains = at_least IsGrain (lesser_is IsGrain)

-- the entries of one base
pub entries : (k : Base) → IsJoin (λ e. (e.base ≡ k) × IsEntry e) EntryBelow join_entries
entries k =
    reordered (along (λ (e : Entry). (e.base, (e.off, e.grain))) (λ p. record { base = p.0; off = p.1.0; grain = p.1.1 }) (λ e. refl) (λ p. refl)
    (pairs (alone k) (pairs intervals grains)))
    EntryBelow (λ x y px py. (λ h. h.1, λ h. (tt, h)))

pub known : IsJoin (IsMap (λ e. e.base) base_cmp IsEntry) (MapBelow (λ e. e.base) base_cmp EntryBelow) (merged entry_cmp join_entries)
known = maps (λ (e : Entry). e.base) base_cmp base_total base_same EntryBelow join_entries (λ x y. refl) IsEntry entries

pub known_shorter : (x y : List Entry) → IsMap (λ e. e.base) base_cmp IsEntry x → IsMap (λ e. e.base) base_cmp IsEntry y → MapBelow (λ e. e.base) base_cmp EntryBelow x y → length x ≤ length y
known_shorter x y px py below = shorter (λ (e : Entry). e.base) base_cmp base_total base_same EntryBelow x y px.0 py.0 below

some_known : IsJoin (λ es. IsMap (λ e. e.base) base_cmp IsEntry es × (0 < length es)) (MapBelow (λ e. e.base) base_cmp EntryBelow) (merged entry_cmp join_entries)
some_known =
    among known (λ es. IsMap (λ e. e.base) base_cmp IsEntry es × (0 < length es)) (λ x qx. qx.0)
    (λ x y qx qy.
    let stays = known.stays x y qx.0 qy.0 in
    let more = known_shorter x (merged entry_cmp join_entries x y) qx.0 stays (known.left x y qx.0 qy.0) in
    (stays, omega arith))

few_known : IsPartialJoin (λ es. (IsMap (λ e. e.base) base_cmp IsEntry es × (0 < length es)) × (length es ≤ 4)) (MapBelow (λ e. e.base) base_cmp EntryBelow)
    (λ x y. cond (nat_le (length (merged entry_cmp join_entries x y)) 4) (Some (merged entry_cmp join_entries x y)) None)
few_known = limited some_known length 4 (λ x y px py below. known_shorter x y px.0 py.0 below)

abbrev listed : Bases → Option (List Entry)
listed (Known es) = Some es
listed Unknown = None

abbrev unlisted : Option (List Entry) → Bases
unlisted (Some es) = Known es
unlisted None = Unknown

back : (b : Bases) → unlisted (listed b) ≡ b
back (Known es) = refl
back Unknown = refl

there : (o : Option (List Entry)) → listed (unlisted o) ≡ o
there (Some es) = refl
there None = refl

same_form : (b : Bases) → IfThere (λ es. (IsMap (λ e. e.base) base_cmp IsEntry es × (0 < length es)) × (length es ≤ 4)) (listed b) ↔ IsBases b
same_form (Known es) = (λ h. h, λ h. h)
same_form Unknown = (λ h. h, λ h. h)

same_order : (a b : Bases) → BelowNone (MapBelow (λ e. e.base) base_cmp EntryBelow) (listed a) (listed b) ↔ BasesBelow a b
same_order (Known es) (Known fs) = (λ h. h, λ h. h)
same_order (Known es) Unknown = (λ h. h, λ h. h)
same_order Unknown (Known fs) = (λ h. h, λ h. h)
same_order Unknown Unknown = (λ h. h, λ h. h)

chosen : (b : Bool) (es : List Entry) → unlisted (cond b (Some es) None) ≡ cond b (Known es) Unknown
chosen true es = refl
chosen false es = refl

same_join : (a b : Bases) →
    unlisted (both_join (λ x y. cond (nat_le (length (merged entry_cmp join_entries x y)) 4) (Some (merged entry_cmp join_entries x y)) None) (listed a) (listed b)) ≡ join_bases a b
same_join (Known es) (Known fs) = chosen (nat_le (length (merged entry_cmp join_entries es fs)) 4) (merged entry_cmp join_entries es fs)
same_join (Known es) Unknown = refl
same_join Unknown (Known fs) = refl
same_join Unknown Unknown = refl

-- the least upper bound of two, and the order
pub bases_join : IsJoin IsBases BasesBelow join_bases
bases_join =
    rejoined (reordered (renamed (along listed unlisted back there (up_to_none few_known)) IsBases same_form) BasesBelow (λ a b pa pb. same_order a b)) join_bases same_join
