use Rattle.std.proofs.Common.{refl, subst}
use Rattle.std.specs.Prelude.{flat_map}
use Rattle.po_ir.specs.Reaching.{effects_in}
use Rattle.po_link.specs.Joined.{libs_of, named_effects}
use Rattle.po_link.specs.Noted.{AreNoted}
use Rattle.po_link.proofs.Carried.{carried_effects, noted_effects}
use Rattle.po_link.proofs.join.join_files.Goals as goal

pub returns : goal.returns
returns c =
    let parts = c.in_ok-project.ensures in
    record {
      joined_parts = record { files = parts.files; opaque = parts.opaque; functions = parts.functions; globals = parts.globals; texts = parts.texts; target_is = parts.target_is };
      effects = carried_effects _ _ (effects_in c.in_ok-library.library) (named_effects c.args.units) c.in_ok-effects.effects refl (noted_effects c.args.units c.in_ok-library.library (subst (λ l. AreNoted c.in_ok-library.library (flat_map libs_of l)) c.as_slice.ensures c.in_ok-library.ensures)) c.in_ok-effects.ensures;
    }
