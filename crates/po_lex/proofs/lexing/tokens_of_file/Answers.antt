use Rattle.std.proofs.Common.{◌≡◌, ℕ, List, [], ◌∷◌, ◌≤◌, ◌+◌, ◌-◌, ◌<◌, ◌^◌, length, take, drop, get_or, true, arith, sym, ap, ◌∙◌, refl, subst}
use Rattle.std.proofs.lemmas.List.{drop_all, drop-drop, length-drop, length-take}
use Rattle.po_lex.specs.Bytes.{newlines, is_blank}
use Rattle.po_lex.specs.Division.{Part, Stands, NoneStands, Divides, start, next_line, named_by}
use Rattle.po_lex.specs.Lexing.{IsRead}
use Rattle.po_lex.specs.declared.part_kind.PartKind.TheVariants as l
use Rattle.po_lex.specs.declared.effect.Effect.TheVariants as e
use Rattle.po_lex.proofs.Lines.{blank_stands}
use Rattle.po_lex.proofs.Fronts.{step, next_small, few_named, few_lines, fails_there, all_read, too_many}
use Rattle.po_lex.proofs.lexing.tokens_of_file.Goals as goal

pub loop-at-preserved-then-is_blank : goal.loop-at-preserved-then-is_blank
loop-at-preserved-then-is_blank c =
    let file : List ℕ = c.args.file.now in
    let at : ℕ = c.loop-at.at in
    let byte : ℕ = c.byte_at-byte.result in
    let x : Part = record { part_kind = l.Blank; text = byte ∷ []; effect = e.Silent } in
    let within : at < length file = omega (arith, ap length c.bytes-count.ensures) in
    let blank : is_blank (get_or file at 0) ≡ true = ap is_blank (sym c.byte_at-byte.ensures) ∙ sym c.is_blank.ensures ∙ c.if-is_blank.true in
    let stands : Stands c.loop-at.lexer.position.fresh (drop at file) x (drop (at + 1) file) =
    subst (λ v. Stands c.loop-at.lexer.position.fresh (drop at file) (record { part_kind = l.Blank; text = v ∷ []; effect = e.Silent }) (drop (at + 1) file)) (sym c.byte_at-byte.ensures)
    (blank_stands c.loop-at.lexer.position.fresh file at within blank) in
    let lines : newlines (byte ∷ []) ≤ length (byte ∷ []) = few_lines (byte ∷ []) in
    let position = c.read_blank.ensures.position in
    let so = c.loop-at.invariant.read in
    record {
      within = omega (arith, within);
      own = rw position (omega (arith, lines));
      named = rw position (omega arith);
      next = rw position (omega (arith, lines));
      read = step c.args.name.now file (drop at file) (drop (at + 1) file) so.0 c.loop-at.lexer c.read_blank.new.self x so.1 so.2 stands c.read_blank.ensures.read;
    }

pub read-requires-clause-next : goal.read-requires-clause-next
read-requires-clause-next c =
    let stands = rw c.in-Some.is at c.in_ok-part.ensures.found in
    let next = next_small c.in-Some.part.part_kind c.loop-at.lexer.position.fresh _ c.in-Some.part.effect c.loop-at.lexer.position.next (c.loop-at.at + 1) stands.part_effect (omega arith) in
    omega (arith, next, ap length c.bytes-count.ensures)

pub loop-at-preserved : goal.loop-at-preserved
loop-at-preserved c =
    let file : List ℕ = c.args.file.now in
    let at : ℕ = c.loop-at.at in
    let left : List ℕ = drop at file in
    let end : ℕ = c.in-Some.part.end in
    let x : Part = record { part_kind = c.in-Some.part.part_kind; text = take end left; effect = c.in-Some.part.effect } in
    let stands : Stands c.loop-at.lexer.position.fresh left x (drop end left) = rw c.in-Some.is at c.in_ok-part.ensures.found in
    let ends : (0 < end) × (at + end ≤ length file) = rw c.in-Some.is at c.in_ok-part.ensures.ends in
    let lines : newlines (take end left) ≤ length (take end left) = few_lines (take end left) in
    let short : length (take end left) ≤ end = rw (length-take end left) (omega arith) in
    let named : length (named_by x.effect) ≤ 1 = few_named x.effect in
    let next : next_line x.effect c.loop-at.lexer.position.next ≤ 2 ^ 31 + (at + 1) =
    next_small x.part_kind c.loop-at.lexer.position.fresh x.text x.effect c.loop-at.lexer.position.next (at + 1) stands.part_effect (omega arith) in
    let position = c.in_ok-read-in-Some.ensures.position in
    let so = c.loop-at.invariant.read in
    record {
      within = omega (arith, ends.1);
      own = rw position (omega (arith, lines, short));
      named = rw position (omega (arith, ends.0, named));
      next = rw position (omega (arith, lines, short, next));
      read = subst (λ v. (f : List Part) × Divides start f file v × IsRead c.args.name.now f c.read.new.self) (drop-drop end at file)
          (step c.args.name.now file left (drop end left) so.0 c.loop-at.lexer c.read.new.self x so.1 so.2 stands c.in_ok-read-in-Some.ensures.read);
    }

pub returns-in-None-clause-fail : goal.returns-in-None-clause-fail
returns-in-None-clause-fail c =
    let file : List ℕ = c.args.file.now in
    let at : ℕ = c.loop-at.at in
    let left : List ℕ = drop at file in
    let room : length left ≡ length file - at = length-drop at file in
    let so = c.loop-at.invariant.read in
    let none : NoneStands c.loop-at.lexer.position.fresh left = rw c.in-None.is at c.in_ok-part.ensures.none in
    fails_there c.args.name.now file left so.0 c.loop-at.lexer _ c.no_part.result so.1 so.2
    (λ e. omega (arith, ap length e, room, ap length c.bytes-count.ensures)) none refl (rw c.rest_of.ensures at c.no_part.ensures)

pub returns-clause-tokens : goal.returns-clause-tokens
returns-clause-tokens c =
    all_read c.args.name.now c.args.file.now (drop c.loop-at.at c.args.file.now) c.loop-at.invariant.read.0 c.loop-at.lexer c.loop-at.invariant.read.1 c.loop-at.invariant.read.2
    (drop_all c.loop-at.at c.args.file.now (omega (arith, ap length c.bytes-count.ensures))) c.finish.result c.finish.ensures.tokens

pub returns-clause-fail : goal.returns-clause-fail
returns-clause-fail c =
    too_many c.args.name.now c.args.file.now (drop c.loop-at.at c.args.file.now) c.loop-at.invariant.read.0 c.loop-at.lexer c.loop-at.invariant.read.1 c.loop-at.invariant.read.2
    (drop_all c.loop-at.at c.args.file.now (omega (arith, ap length c.bytes-count.ensures))) c.finish.result c.finish.ensures.fail
