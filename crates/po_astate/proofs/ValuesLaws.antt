-- Values of registers are ordered part by part, their join is the least upper bound, and the test tells the order.
use Rattle.std.specs.Prelude.{◌≡◌, ℕ, nat_eq, nat_le, ◌≤ℤ◌, int_le, Bool, true, false, cond, not, ◌&&◌, ◌||◌, ℤ, Option, Some, None, ◌↔◌}
use Rattle.std.proofs.Common.{refl, sym, ◌∙◌, arith}
use Rattle.std.specs.Option.{is_some}
use Rattle.std.specs.Bool.{Decides}
use Rattle.std.proofs.lemmas.Bool.Decides.{Decides-and, Decides-eqb}
use Rattle.std.proofs.lemmas.Int.{ints}
use Rattle.po_arith.specs.declared.interval.Interval.{Interval}
use Rattle.po_arith.specs.Hull.{IsInhabited, hull}
use Rattle.po_interval.specs.Members.{IsProper, AreWithin, members_within, join_members, WithinIsExact, OneOfAll, JoinIsLeast}
use Rattle.po_interval.specs.Within.{is_lower, is_upper, interval_within}
use Rattle.po_bases.specs.declared.entry.Entry.{Entry}
use Rattle.po_bases.specs.declared.bases.Bases.{Bases}
use Rattle.po_bases.specs.declared.bases.Bases.TheVariants.{Known, Unknown}
use Rattle.po_bases.specs.General.{IsJoin, IsPartialJoin, IfThere, BelowNone, both_join, surely, surely_tells, le_tells, pairs, along, renamed, reordered, rejoined, up_to_none, join_of_lesser, join_of_greater}
use Rattle.po_bases.specs.Intervals.{IsBetween, LowBelow, HighBelow, intervals}
use Rattle.po_bases.specs.Maps.{covered_tells}
use Rattle.po_bases.specs.Base.{base_cmp, base_total, base_same}
use Rattle.po_bases.specs.Bases.{IsEntry, EntryBelow, IsBases, BasesBelow}
use Rattle.po_bases.proofs.BasesLaws.{bases_join}
use Rattle.po_astate.specs.Values.{is_bounded, Rel, IsRel, RelBelow, rel_within, bounded_rel, join_rel, entry_within, bases_within, IsValue, ValueBelow, value_within, join_values}
use Rattle.po_astate.specs.declared.value.AValue.{AValue}

-- ---- intervals

end_tells : (x y : ℤ) → Decides (int_le x y) (x ≤ℤ y)
end_tells x y = (told x y, tested x y) where
  told : (x y : ℤ) → int_le x y ≡ true → x ≤ℤ y
  told x y h = grind (arith, ints)

  tested : (x y : ℤ) → x ≤ℤ y → int_le x y ≡ true
  tested x y h = grind (arith, ints)

low_tells : (a b : Option ℤ) → Decides (is_lower b a) (LowBelow a b)
low_tells a None = (λ h. tt, λ h. refl)
low_tells None (Some y) = (λ h. cc, λ h. absurd h)
low_tells (Some x) (Some y) = end_tells y x

high_tells : (a b : Option ℤ) → Decides (is_upper b a) (HighBelow a b)
high_tells a None = (λ h. tt, λ h. refl)
high_tells None (Some y) = (λ h. cc, λ h. absurd h)
high_tells (Some x) (Some y) = end_tells x y

pub between_tells : (a b : Interval) → Decides (interval_within a b) (IsBetween a b)
between_tells a b = Decides-and (is_lower b.lo a.lo) (is_upper b.hi a.hi) (low_tells a.lo b.lo) (high_tells a.hi b.hi)

-- ---- relations to an argument

some_low : (a b : Option ℤ) → LowBelow a b → is_some b ≡ true → is_some a ≡ true
some_low None None h k = k
some_low None (Some y) h k = absurd h
some_low (Some x) b h k = refl

some_high : (a b : Option ℤ) → HighBelow a b → is_some b ≡ true → is_some a ≡ true
some_high None None h k = k
some_high None (Some y) h k = absurd h
some_high (Some x) b h k = refl

either_some : (a b c d : Bool) → (c ≡ true → a ≡ true) → (d ≡ true → b ≡ true) → (c || d) ≡ true → (a || b) ≡ true
either_some true b c d f g h = refl
either_some false b true d f g h = absurd (let e : false ≡ true = f refl in cc)
either_some false b false d f g h = g h

-- what has an end has one where it is made smaller
pub bounded_within : (a b : Interval) → IsBetween a b → is_bounded b ≡ true → is_bounded a ≡ true
bounded_within a b h k = either_some (is_some a.lo) (is_some a.hi) (is_some b.lo) (is_some b.hi) (some_low a.lo b.lo h.0) (some_high a.hi b.hi h.1) k

abbrev Argument : Type 0
Argument = ℕ × Interval

abbrev IsArgument : Argument → Type 0
IsArgument p = IsInhabited p.1 × (is_bounded p.1 ≡ true)

abbrev ArgumentBelow : Argument → Argument → Type 0
ArgumentBelow p q = (p.0 ≡ q.0) × IsBetween p.1 q.1

abbrev join_arguments : Argument → Argument → Rel
join_arguments p q = cond (nat_eq p.0 q.0) (bounded_rel p.0 (hull p.1 q.1)) None

argument_stays : (j : ℕ) (a : Interval) (same bounded : Bool) → is_bounded a ≡ bounded → IsInhabited a → IfThere IsArgument (cond same (cond bounded (Some (j, a)) None) None)
argument_stays j a false bounded e h = tt
argument_stays j a true false e h = tt
argument_stays j a true true e h = (h, e)

argument_above : (p : Argument) (j : ℕ) (a : Interval) (same bounded : Bool) → (same ≡ true → p.0 ≡ j) → IsBetween p.1 a → BelowNone ArgumentBelow (Some p) (cond same (cond bounded (Some (j, a)) None) None)
argument_above p j a false bounded e h = tt
argument_above p j a true false e h = tt
argument_above p j a true true e h = (e refl, h)

argument_least : (r : Argument) (j : ℕ) (a : Interval) (same bounded : Bool) → same ≡ true → bounded ≡ true → j ≡ r.0 → IsBetween a r.1 → BelowNone ArgumentBelow (cond same (cond bounded (Some (j, a)) None) None) (Some r)
argument_least r j a true true e f same h = (same, h)
argument_least r j a true false e f same h = absurd (let g : false ≡ true = f in cc)
argument_least r j a false bounded e f same h = absurd (let g : false ≡ true = e in cc)

arguments : IsPartialJoin IsArgument ArgumentBelow join_arguments
arguments = record {
  stays = λ x y px py. argument_stays x.0 (hull x.1 y.1) (nat_eq x.0 y.0) (is_bounded (hull x.1 y.1)) refl (intervals.stays x.1 y.1 px.0 py.0);
  itself = λ x px. (refl, intervals.itself x.1 px.0);
  through = λ x y z px py pz h k. (h.0 ∙ k.0, intervals.through x.1 y.1 z.1 px.0 py.0 pz.0 h.1 k.1);
  apart = λ x y px py h k i. (h.0 i, intervals.apart x.1 y.1 px.0 py.0 h.1 k.1 i);
  left = λ x y px py. argument_above x x.0 (hull x.1 y.1) (nat_eq x.0 y.0) (is_bounded (hull x.1 y.1)) (λ h. refl) (intervals.left x.1 y.1 px.0 py.0);
  right = λ x y px py. argument_above y x.0 (hull x.1 y.1) (nat_eq x.0 y.0) (is_bounded (hull x.1 y.1)) (λ h. sym ((Decides-eqb x.0 y.0).0 h)) (intervals.right x.1 y.1 px.0 py.0);
  least = λ x y z px py pz h k.
      let least = intervals.least x.1 y.1 z.1 px.0 py.0 pz.0 h.1 k.1 in
      argument_least z x.0 (hull x.1 y.1) (nat_eq x.0 y.0) (is_bounded (hull x.1 y.1)) ((Decides-eqb x.0 y.0).1 (h.0 ∙ sym k.0)) (bounded_within (hull x.1 y.1) z.1 least pz.1) h.0 least;
}

same_rel_form : (r : Rel) → IfThere IsArgument r ↔ IsRel r
same_rel_form None = (λ h. h, λ h. h)
same_rel_form (Some p) = (λ h. h, λ h. h)

same_rel_order : (r s : Rel) → BelowNone ArgumentBelow r s ↔ RelBelow r s
same_rel_order r None = (λ h. tt, λ h. tt)
same_rel_order None (Some q) = (λ h. h, λ h. h)
same_rel_order (Some p) (Some q) = (λ h. h, λ h. h)

same_rel_join : (r s : Rel) → both_join join_arguments r s ≡ join_rel r s
same_rel_join None s = refl
same_rel_join (Some p) None = refl
same_rel_join (Some p) (Some q) = refl

pub rels_join : IsJoin IsRel RelBelow join_rel
rels_join = rejoined (reordered (renamed (up_to_none arguments) IsRel same_rel_form) RelBelow (λ r s pr ps. same_rel_order r s)) join_rel same_rel_join

pub rel_tells : (r s : Rel) → Decides (rel_within r s) (RelBelow r s)
rel_tells r None = (λ h. tt, λ h. refl)
rel_tells None (Some q) = (λ h. cc, λ h. absurd h)
rel_tells (Some p) (Some q) = Decides-and (nat_eq p.0 q.0) (interval_within p.1 q.1) (Decides-eqb p.0 q.0) (between_tells p.1 q.1)

-- ---- bases

entry_tells : (e f : Entry) → IsEntry e → IsEntry f → Decides (entry_within e f) (EntryBelow e f)
entry_tells e f pe pf = Decides-and (interval_within e.off f.off) (nat_le f.grain e.grain) (between_tells e.off f.off) (le_tells f.grain e.grain)

pub bases_tells : (a b : Bases) → IsBases a → IsBases b → Decides (bases_within a b) (BasesBelow a b)
bases_tells a Unknown pa pb = (λ h. top a, λ h. refl) where
  top : (a : Bases) → BasesBelow a Unknown
  top (Known es) = tt
  top Unknown = tt
bases_tells Unknown (Known fs) pa pb = (λ h. cc, λ h. absurd h)
bases_tells (Known es) (Known fs) pa pb = covered_tells (λ (e : Entry). e.base) base_cmp base_total base_same EntryBelow entry_within IsEntry entry_tells es fs pa.0.0 pb.0.0

-- ---- values, by the laws of members

module _ (exact : WithinIsExact) (one : OneOfAll) (law : JoinIsLeast) where
  pub members_join : IsJoin IsProper AreWithin join_members
  members_join = record {
    stays = λ x y px py. law.proper x y px py;
    itself = λ x px v h. h;
    through = λ x y z px py pz h k v m. k v (h v m);
    apart = λ x y px py h k. one x y px py h k;
    left = λ x y px py. law.first x y;
    right = λ x y px py. law.second x y;
    least = λ x y z px py pz h k. law.least x y z pz h k;
  }

  pub values_join : IsJoin IsValue ValueBelow join_values
  values_join =
      reordered (renamed
      (along (λ (a : AValue). (a.set, (a.nonzero, (a.range, (a.members, (a.rel, a.bases))))))
      (λ p. record { set = p.0; nonzero = p.1.0; range = p.1.1.0; members = p.1.1.1.0; rel = p.1.1.1.1.0; bases = p.1.1.1.1.1 }) (λ a. refl) (λ p. refl)
      (pairs surely (pairs surely (pairs intervals (pairs members_join (pairs rels_join bases_join))))))
      IsValue (λ a. (λ h. record { range = h.1.1.0; members = h.1.1.1.0; rel = h.1.1.1.1.0; bases = h.1.1.1.1.1 }, λ h. (tt, (tt, (h.range, (h.members, (h.rel, h.bases))))))))
      ValueBelow (λ a b pa pb. (
        λ h. record { set = h.0; nonzero = h.1.0; range = h.1.1.0; members = h.1.1.1.0; rel = h.1.1.1.1.0; bases = h.1.1.1.1.1 },
        λ h. (h.set, (h.nonzero, (h.range, (h.members, (h.rel, h.bases))))),
      ))

  pub value_tells : (a b : AValue) → IsValue a → IsValue b → Decides (value_within a b) (ValueBelow a b)
  value_tells a b pa pb =
      let both = Decides-and ((a.set || not b.set) && (a.nonzero || not b.nonzero) && interval_within a.range b.range && members_within a.members b.members && rel_within a.rel b.rel) (bases_within a.bases b.bases)
      (Decides-and ((a.set || not b.set) && (a.nonzero || not b.nonzero) && interval_within a.range b.range && members_within a.members b.members) (rel_within a.rel b.rel)
      (Decides-and ((a.set || not b.set) && (a.nonzero || not b.nonzero) && interval_within a.range b.range) (members_within a.members b.members)
      (Decides-and ((a.set || not b.set) && (a.nonzero || not b.nonzero)) (interval_within a.range b.range)
      (Decides-and (a.set || not b.set) (a.nonzero || not b.nonzero) (surely_tells a.set b.set) (surely_tells a.nonzero b.nonzero))
      (between_tells a.range b.range))
      (exact a.members b.members))
      (rel_tells a.rel b.rel))
      (bases_tells a.bases b.bases pa.bases pb.bases) in (
        λ t. let p = both.0 t in record { set = p.0.0.0.0.0; nonzero = p.0.0.0.0.1; range = p.0.0.0.1; members = p.0.0.1; rel = p.0.1; bases = p.1 },
        λ h. both.1 (((((h.set, h.nonzero), h.range), h.members), h.rel), h.bases),
      )

  -- where the test holds, the join is one of the two
  pub joins_to_second : (a b : AValue) → IsValue a → IsValue b → value_within a b ≡ true → join_values a b ≡ b
  joins_to_second a b pa pb h = join_of_lesser values_join a b pa pb ((value_tells a b pa pb).0 h)

  pub joins_to_first : (a b : AValue) → IsValue a → IsValue b → value_within b a ≡ true → join_values a b ≡ a
  joins_to_first a b pa pb h = join_of_greater values_join a b pa pb ((value_tells b a pb pa).0 h)
