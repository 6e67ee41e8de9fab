-- The listed call sites are the calls.
use Rattle.std.proofs.Common.{◌≡◌, ◌+◌, cond, [], ◌∷◌, refl, ap, sym, subst, arith}
use Rattle.std.specs.Prelude.{Some, Contains, slice_get}
use Rattle.po_base.specs.declared.numbers.FunNo.{FunNo}
use Rattle.po_base.specs.declared.numbers.NodeNo.{NodeNo}
use Rattle.po_ir.specs.declared.project.Project.{Project}
use Rattle.po_ir.specs.Calls.{is_call_of, node_call, function_calls, call_sites, CallsAt, SitesAreCalls}
use Rattle.po_ir.proofs.General.{into_each, from_each, alone}

are_calls : (p : Project) (f g : FunNo) (n : NodeNo) → Contains (call_sites p f) (g, n) → CallsAt p f g n
are_calls p f g n c =
    let r = from_each (function_calls f) 0 p.functions (g, n) c in
    let s = from_each (node_call f (0 + r.0)) 0 r.1.graph.nodes (g, n) r.3 in
    let only = alone (is_call_of f s.1.instr) (record { 0 = 0 + r.0 }, record { 0 = 0 + s.0 }) (g, n) s.3 in
    let fun : 0 + r.0 ≡ g.0 = ap (λ (x : FunNo × NodeNo). x.0.0) only.1 in
    let node : 0 + s.0 ≡ n.0 = ap (λ (x : FunNo × NodeNo). x.1.0) only.1 in
    let g_is : r.0 ≡ g.0 = omega arith in
    let n_is : s.0 ≡ n.0 = omega arith in
    (r.1, s.1, subst (λ k. slice_get p.functions k ≡ Some r.1) g_is r.2, subst (λ k. slice_get r.1.graph.nodes k ≡ Some s.1) n_is s.2, only.0)

listed : (p : Project) (f g : FunNo) (n : NodeNo) → CallsAt p f g n → Contains (call_sites p f) (g, n)
listed p f g n (function, node, there, here, calls) =
    let first : g.0 ≡ 0 + g.0 = omega arith in
    let second : n.0 ≡ 0 + n.0 = omega arith in
    let stands : Contains (node_call f g.0 n.0 node) (g, n) = subst (λ b. Contains {X = FunNo × NodeNo} (cond b ((g, n) ∷ []) []) (g, n)) (sym calls) (0, omega arith, refl) in
    let inside : Contains (function_calls f g.0 function) (g, n) =
    into_each (node_call f g.0) 0 function.graph.nodes n.0 node (g, n) here (subst (λ k. Contains (node_call f g.0 k node) (g, n)) second stands) in
    into_each (function_calls f) 0 p.functions g.0 function (g, n) there (subst (λ k. Contains (function_calls f k function) (g, n)) first inside)

pub sites_are_calls : SitesAreCalls
sites_are_calls p f g n = (are_calls p f g n, listed p f g n)
