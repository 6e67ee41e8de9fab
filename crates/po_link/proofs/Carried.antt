-- Effects depend on the functions and on what is said of library functions, and on nothing else.
use Rattle.std.proofs.Common.{◌≡◌, ℕ, suc, List, [], ◌∷◌, Bool, true, length, refl, ap, sym, ◌∙◌, subst, arith}
use Rattle.std.specs.Prelude.{Option, Some, None, Contains, slice_get, ◌||◌, flat_map, find, option_map, unwrap_or}
use Rattle.std.specs.Option.{option_map_or}
use Rattle.std.specs.BTreeMap.{BTreeMap}
use Rattle.std.specs.List.{list_any}
use Rattle.std.specs.Cmp.{both_ways}
use Rattle.po_base.specs.declared.numbers.LibNo.{LibNo}
use Rattle.po_ir.specs.declared.instr.Callee.TheVariants.{Fun, Extern}
use Rattle.po_ir.specs.declared.instr.Reason.TheVariants.{Unread, End}
use Rattle.po_ir.specs.declared.instr.Instr.{Instr}
use Rattle.po_ir.specs.declared.instr.Instr.TheVariants.{Const, Copy, Bin, Un, Conv, AddrSlot, AddrGlobal, AddrStr, PtrAdd, PtrDiff, Load, Store, CopyBytes, Fill, Enter, Leave, Call, Lib, If, Jump, Return, Never}
use Rattle.po_ir.specs.declared.graph.Node.{Node}
use Rattle.po_ir.specs.declared.project.Effects.{Effects}
use Rattle.po_ir.specs.declared.project.Project.{Project}
use Rattle.po_ir.specs.declared.unit.LibUse.{LibUse}
use Rattle.po_ir.specs.declared.unit.Unit.{Unit as FileUnit}
use Rattle.po_ir.specs.General.{each_from}
use Rattle.po_ir.specs.Calls.{function_calls}
use Rattle.po_ir.specs.Reaching.{LibraryEffects, frees_here, writes_here, Reaches, AreEffects, effects_in}
use Rattle.po_link.specs.Joined.{libs_of, is_lib, named_effects}
use Rattle.po_link.specs.Noted.{AreNoted, effects_of_lib}
use Rattle.po_ir.specs.Reaching.Reaches.{reaches_itself, reaches_through}

any_same : (a b : Node → Bool) → ((n : Node) → a n ≡ b n) → (nodes : List Node) → list_any a nodes ≡ list_any b nodes
any_same a b same [] = refl
any_same a b same (n ∷ ns) = ap (λ t. t || list_any a ns) (same n) ∙ ap (λ t. b n || t) (any_same a b same ns)

-- a test that gives the same, over a project of the same functions
carried : (p q : Project) (a b : Instr → Bool) → p.functions ≡ q.functions → ((i : Instr) → a i ≡ b i) → (f : ℕ) → Reaches p a f → Reaches q b f
carried p q a b functions same _ (reaches_itself f function at does_it) =
    reaches_itself f function (subst (λ l. slice_get l f ≡ Some function) functions at)
    (sym (any_same (λ (n : Node). a n.instr) (λ (n : Node). b n.instr) (λ n. same n.instr) function.graph.nodes) ∙ does_it)
carried p q a b functions same _ (reaches_through f g function n at has rest) =
    reaches_through f g function n (subst (λ l. slice_get l f ≡ Some function) functions at)
    (subst (λ l. Contains (each_from (function_calls (record { 0 = g })) 0 l) (record { 0 = f }, n)) functions has) (carried p q a b functions same g rest)

frees_same : (l m : LibraryEffects) → ((lib : LibNo) → l lib ≡ m lib) → (i : Instr) → frees_here l i ≡ frees_here m i
frees_same l m same (Const to value) = refl
frees_same l m same (Copy to from) = refl
frees_same l m same (Bin to op ty a b) = refl
frees_same l m same (Un to op ty a) = refl
frees_same l m same (Conv to from ty align) = refl
frees_same l m same (AddrSlot to slot) = refl
frees_same l m same (AddrGlobal to global) = refl
frees_same l m same (AddrStr to text) = refl
frees_same l m same (PtrAdd to base index factor) = refl
frees_same l m same (PtrDiff to a b size) = refl
frees_same l m same (Load to at access) = refl
frees_same l m same (Store at value access) = refl
frees_same l m same (CopyBytes to from size align) = refl
frees_same l m same (Fill slot size) = refl
frees_same l m same (Enter what) = refl
frees_same l m same (Leave slot) = refl
frees_same l m same (Call to (Fun f) args strings) = refl
frees_same l m same (Call to (Extern name) args strings) = refl
frees_same l m same (Lib to lib args strings) = ap (λ (e : Effects). e.frees) (same lib)
frees_same l m same (If op ty a b true_side false_side) = refl
frees_same l m same (Jump next) = refl
frees_same l m same (Return value) = refl
frees_same l m same (Never Unread) = refl
frees_same l m same (Never End) = refl

writes_same : (l m : LibraryEffects) → ((lib : LibNo) → l lib ≡ m lib) → (i : Instr) → writes_here l i ≡ writes_here m i
writes_same l m same (Const to value) = refl
writes_same l m same (Copy to from) = refl
writes_same l m same (Bin to op ty a b) = refl
writes_same l m same (Un to op ty a) = refl
writes_same l m same (Conv to from ty align) = refl
writes_same l m same (AddrSlot to slot) = refl
writes_same l m same (AddrGlobal to global) = refl
writes_same l m same (AddrStr to text) = refl
writes_same l m same (PtrAdd to base index factor) = refl
writes_same l m same (PtrDiff to a b size) = refl
writes_same l m same (Load to at access) = refl
writes_same l m same (Store at value access) = refl
writes_same l m same (CopyBytes to from size align) = refl
writes_same l m same (Fill slot size) = refl
writes_same l m same (Enter what) = refl
writes_same l m same (Leave slot) = refl
writes_same l m same (Call to (Fun f) args strings) = refl
writes_same l m same (Call to (Extern name) args strings) = refl
writes_same l m same (Lib to lib args strings) = ap (λ (e : Effects). e.writes) (same lib)
writes_same l m same (If op ty a b true_side false_side) = refl
writes_same l m same (Jump next) = refl
writes_same l m same (Return value) = refl
writes_same l m same (Never Unread) = refl
writes_same l m same (Never End) = refl

pub carried_effects : (p q : Project) (l m : LibraryEffects) (effects : List Effects) → p.functions ≡ q.functions → ((lib : LibNo) → l lib ≡ m lib) → AreEffects l p effects → AreEffects m q effects
carried_effects p q l m effects functions same h =
    let frees = frees_same l m same in
    let writes = writes_same l m same in
    record {
      count = h.count ∙ ap length functions;
      frees = λ f e at. (λ t. carried p q (frees_here l) (frees_here m) functions frees f ((h.frees f e at).0 t), λ r. (h.frees f e at).1 (carried q p (frees_here m) (frees_here l) (sym functions) (λ i. sym (frees i)) f r));
      writes = λ f e at. (λ t. carried p q (writes_here l) (writes_here m) functions writes f ((h.writes f e at).0 t), λ r. (h.writes f e at).1 (carried q p (writes_here m) (writes_here l) (sym functions) (λ i. sym (writes i)) f r));
    }

same_items : (xs ys : List Effects) → length xs ≡ length ys → ((i : ℕ) (x y : Effects) → slice_get xs i ≡ Some x → slice_get ys i ≡ Some y → x ≡ y) → xs ≡ ys
same_items [] [] long same = refl
same_items [] (y ∷ ys) long same = absurd (omega arith)
same_items (x ∷ xs) [] long same = absurd (omega arith)
same_items (x ∷ xs) (y ∷ ys) long same = ap (λ z. z ∷ xs) (same 0 x y refl refl) ∙ ap (λ l. y ∷ l) (same_items xs ys (omega arith) (λ i. same (suc i)))

pub one_effects : (p : Project) (library : LibraryEffects) (d e : List Effects) → AreEffects library p d → AreEffects library p e → d ≡ e
one_effects p library d e h k = same_items d e (h.count ∙ sym k.count) (λ f x y at there.
    let frees : x.frees ≡ y.frees = both_ways x.frees y.frees (λ t. (k.frees f y there).1 ((h.frees f x at).0 t)) (λ t. (h.frees f x at).1 ((k.frees f y there).0 t)) in
    let writes : x.writes ≡ y.writes = both_ways x.writes y.writes (λ t. (k.writes f y there).1 ((h.writes f x at).0 t)) (λ t. (h.writes f x at).1 ((k.writes f y there).0 t)) in
    ap (λ b. record { frees = b; writes = x.writes }) frees ∙ ap (λ b. record { frees = y.frees; writes = b }) writes)

effects_or : (o : Option LibUse) (d : Effects) → unwrap_or (option_map effects_of_lib o) d ≡ option_map_or effects_of_lib o d
effects_or None d = refl
effects_or (Some used) d = refl

-- what is noted of library functions is what the files say of them
pub noted_effects : (units : List FileUnit) (noted : BTreeMap ℕ Effects) → AreNoted noted (flat_map libs_of units) → (lib : LibNo) → effects_in noted lib ≡ named_effects units lib
noted_effects units noted h lib = ap (λ o. unwrap_or o (record { frees = true; writes = true })) (h.each lib.0) ∙ effects_or (find (is_lib lib.0) (flat_map libs_of units)) (record { frees = true; writes = true })
