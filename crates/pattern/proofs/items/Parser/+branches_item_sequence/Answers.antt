-- The readers of branches, of a sequence and of an item meet their contracts together. Every return
-- is one law of `Returns`; the other answers are places inside the pattern and room in the words.
use mathlib.Core.Path.{refl, sym, ap, ◌∙◌}
use native.Mathlib.Omega.{arith}
use Rattle.std.specs.Prelude.{Ok, Err}
use Rattle.std.proofs.lemmas.Result.{err_from_is_err_and}
use Rattle.tokens.specs.Answer.{token, told}
use Rattle.pattern.proofs.Keys.{ends, passes, beginning, only-class}
use Rattle.pattern.proofs.Returns as returned
use Rattle.pattern.proofs.items.Parser.+branches_item_sequence.Goals as goal

pub branches-returns-then-peek-ne124 : goal.branches-returns-then-peek-ne124
branches-returns-then-peek-ne124 t c =
    let x = c.args in
    returned.alt-last x.s.now x.self.now x.depth c.requires.room c.sequence.new.self c.in_ok-g.g c.in_ok-g.ensures (λ z. c.if-peek-ne124.true (c.peek.ensures ∙ z))

pub branches-branches-requires : goal.branches-branches-requires
branches-branches-requires t c =
    let x = c.args in
    let r = returned.alt-room x.s.now x.self.now x.depth c.requires.room c.sequence.new.self c.in_ok-g.g c.in_ok-g.ensures (sym c.peek.ensures ∙ c.if-peek-ne124.false) in
    (omega (arith, c.decreases, r.1, r.0.inside), (record { inside = r.0.inside; space = r.0.space; long = r.0.long }, c.requires.depth_bound))

pub branches-returns-in_err-h : goal.branches-returns-in_err-h
branches-returns-in_err-h t c =
    let x = c.args in
    let p = err_from_is_err_and c.from_residual-in_err-h.result c.from_residual-in_err-h.ensures.1 in
    rw (p.1, p.2) (returned.alt-rest-no x.s.now x.self.now x.depth c.requires.room c.sequence.new.self c.in_ok-g.g c.in_ok-g.ensures (sym c.peek.ensures ∙ c.if-peek-ne124.false) c.branches.new.self _ c.in_err-h.ensures)

pub branches-returns : goal.branches-returns
branches-returns t c =
    let x = c.args in
    returned.alt-both x.s.now x.self.now x.depth c.requires.room c.sequence.new.self c.in_ok-g.g c.in_ok-g.ensures (sym c.peek.ensures ∙ c.if-peek-ne124.false) c.branches.new.self c.in_ok-h.h c.in_ok-h.ensures c.push.new.self c.push.result c.push.ensures.number c.push.ensures.words

pub item-returns-in-Repeat : goal.item-returns-in-Repeat
item-returns-in-Repeat t c =
    let x = c.args in
    returned.item-nothing x.s.now x.self.now x.depth c.requires.room (told x.size (Ok x.token)) (sym c.requires.here.is) x.self.now _ _ (ap token c.in-Repeat.is)

pub item-overflow_add-self : goal.item-overflow_add-self
item-overflow_add-self t c =
    let x = c.args in
    let r = returned.one-room x.s.now x.self.now x.depth c.requires.room (told x.size (Ok x.token)) (sym c.requires.here.is) c.in-One.atom (ap token c.in-One.is) in omega (arith, r.inside)

pub item-single-requires : goal.item-single-requires
item-single-requires t c =
    let x = c.args in
    returned.one-room x.s.now x.self.now x.depth c.requires.room (told x.size (Ok x.token)) (sym c.requires.here.is) c.in-One.atom (ap token c.in-One.is)

pub item-returns-then-depth-eq16 : goal.item-returns-then-depth-eq16
item-returns-then-depth-eq16 t c =
    let x = c.args in
    returned.item-deep x.s.now x.self.now x.depth c.requires.room (told x.size (Ok x.token)) (sym c.requires.here.is) c.in-Open.inside (ap token c.in-Open.is) x.self.now c.if-depth-eq16.true

pub item-overflow_add-self-in-Open : goal.item-overflow_add-self-in-Open
item-overflow_add-self-in-Open t c =
    let x = c.args in
    let r = returned.open-room x.s.now x.self.now x.depth c.requires.room (told x.size (Ok x.token)) (sym c.requires.here.is) c.in-Open.inside (ap token c.in-Open.is) in omega (arith, r.0.inside)

pub item-branches-requires : goal.item-branches-requires
item-branches-requires t c =
    let x = c.args in
    let r = returned.open-room x.s.now x.self.now x.depth c.requires.room (told x.size (Ok x.token)) (sym c.requires.here.is) c.in-Open.inside (ap token c.in-Open.is) in (omega (arith, c.requires, c.decreases, r), (r.0, omega (arith, c.requires, c.if-depth-eq16.false)))

pub item-returns-in_err-g-in-Open : goal.item-returns-in_err-g-in-Open
item-returns-in_err-g-in-Open t c =
    let x = c.args in
    let p = err_from_is_err_and c.from_residual.result c.from_residual.ensures.1 in
    rw (p.1, p.2) (returned.item-inner-no x.s.now x.self.now x.depth c.requires.room (told x.size (Ok x.token)) (sym c.requires.here.is) c.in-Open.inside (ap token c.in-Open.is) (omega (arith, c.requires.depth_bound, c.if-depth-eq16.false)) c.branches.new.self _ c.in_err-g-in-Open.ensures)

pub item-returns-then-self-s : goal.item-returns-then-self-s
item-returns-then-self-s t c =
    let x = c.args in
    returned.item-open x.s.now x.self.now x.depth c.requires.room (told x.size (Ok x.token)) (sym c.requires.here.is) c.in-Open.inside (ap token c.in-Open.is) (omega (arith, c.requires.depth_bound, c.if-depth-eq16.false)) c.branches.new.self c.in_ok-g-in-Open.g c.in_ok-g-in-Open.ensures c.if-self-s.true

pub item-quantified-requires-clause-room : goal.item-quantified-requires-clause-room
item-quantified-requires-clause-room t c =
    let x = c.args in
    (returned.group-room x.s.now x.self.now x.depth c.requires.room (told x.size (Ok x.token)) (sym c.requires.here.is) c.in-Open.inside (ap token c.in-Open.is) (omega (arith, c.requires.depth_bound, c.if-depth-eq16.false)) c.branches.new.self c.in_ok-g-in-Open.g c.in_ok-g-in-Open.ensures c.if-self-s.false).0

pub item-class-requires : goal.item-class-requires
item-class-requires t c =
    let x = c.args in
    returned.class-room x.s.now x.self.now x.depth c.requires.room (told x.size (Ok x.token)) (sym c.requires.here.is) (only-class x.token c.requires.here.begins c.in_default.not-One c.in_default.not-Open c.in_default.not-Repeat)

pub item-returns-in-One : goal.item-returns-in-One
item-returns-in-One t c =
    let x = c.args in
    returned.item-one x.s.now x.self.now x.depth c.requires.room (told x.size (Ok x.token)) (sym c.requires.here.is) c.in-One.atom (ap token c.in-One.is) c.single.new.self c.single.result c.single.ensures

pub item-returns-else-self-s : goal.item-returns-else-self-s
item-returns-else-self-s t c =
    let x = c.args in
    returned.item-group x.s.now x.self.now x.depth c.requires.room (told x.size (Ok x.token)) (sym c.requires.here.is) c.in-Open.inside (ap token c.in-Open.is) (omega (arith, c.requires.depth_bound, c.if-depth-eq16.false)) c.branches.new.self c.in_ok-g-in-Open.g c.in_ok-g-in-Open.ensures c.if-self-s.false c.quantified.new.self c.quantified.result c.quantified.ensures

pub item-returns-in_default : goal.item-returns-in_default
item-returns-in_default t c =
    let x = c.args in
    returned.item-class x.s.now x.self.now x.depth c.requires.room (told x.size (Ok x.token)) (sym c.requires.here.is) (only-class x.token c.requires.here.begins c.in_default.not-One c.in_default.not-Open c.in_default.not-Repeat) c.class.new.self c.class.result c.class.ensures

pub sequence-returns-in-Err : goal.sequence-returns-in-Err
sequence-returns-in-Err t c =
    let x = c.args in
    returned.seq-fault x.s.now x.self.now x.depth c.requires.room (told c.token_at-l.result.size (Err c.in-Err.refusal)) (sym (rw c.in-Err.is at c.token_at-l.ensures)) x.self.now c.in-Err.refusal refl refl

pub sequence-item-requires : goal.sequence-item-requires
sequence-item-requires t c =
    let x = c.args in
    let r = c.requires.room in (
      omega (arith, c.decreases),
      (
        record { inside = r.inside; space = omega (arith, r.space); long = r.long },
        (
          c.requires.depth_bound,
          record {
            is = rw c.in-Ok.is at c.token_at-l.ensures;
            begins = beginning c.in-Ok.token c.in_default.not-Finish c.in_default.not-Bar c.in_default.not-Close c.in_default.not-Set c.in_default.not-Note c.in_default.not-Unclosed;
          },
        ),
      ),
    )

pub sequence-sequence-requires : goal.sequence-sequence-requires
sequence-sequence-requires t c =
    let x = c.args in
    let r = returned.seq-room x.s.now x.self.now x.depth c.requires.room c.item.new.self c.in_ok-g-in_default.g c.in_ok-g-in_default.ensures in (omega (arith, c.decreases, r.1, r.0.inside), (r.0, c.requires.depth_bound))

pub sequence-overflow_add-self : goal.sequence-overflow_add-self
sequence-overflow_add-self t c =
    let x = c.args in
    let i = returned.seq-pass-inside x.s.now x.self.now x.depth c.requires.room (told c.token_at-l.result.size (Ok c.in-Ok.token)) (sym (rw c.in-Ok.is at c.token_at-l.ensures)) c.in-Set.after (passes c.in-Ok.token c.in-Set.after c.in-Set.is) in omega arith

pub sequence-sequence-requires-in-Set : goal.sequence-sequence-requires-in-Set
sequence-sequence-requires-in-Set t c =
    let x = c.args in
    let i = returned.seq-pass-inside x.s.now x.self.now x.depth c.requires.room (told c.token_at-l.result.size (Ok c.in-Ok.token)) (sym (rw c.in-Ok.is at c.token_at-l.ensures)) c.in-Set.after (passes c.in-Ok.token c.in-Set.after c.in-Set.is) in
    (omega (arith, c.decreases), (record { inside = i.1; space = omega (arith, c.requires); long = c.requires.room.long }, c.requires.depth_bound))

pub sequence-returns-in-Finish : goal.sequence-returns-in-Finish
sequence-returns-in-Finish t c =
    let x = c.args in
    returned.seq_end x.s.now x.self.now x.depth c.requires.room (told c.token_at-l.result.size (Ok c.in-Ok.token)) (sym (rw c.in-Ok.is at c.token_at-l.ensures)) c.push.new.self c.push.result (ends c.in-Ok.token c.in-Finish.is) c.push.ensures.number c.push.ensures.words

pub sequence-returns-in-Unclosed : goal.sequence-returns-in-Unclosed
sequence-returns-in-Unclosed t c =
    let x = c.args in
    returned.seq-unclosed x.s.now x.self.now x.depth c.requires.room (told c.token_at-l.result.size (Ok c.in-Ok.token)) (sym (rw c.in-Ok.is at c.token_at-l.ensures)) x.self.now (ap token c.in-Unclosed.is)

pub sequence-returns-in_ok-h-in_default : goal.sequence-returns-in_ok-h-in_default
sequence-returns-in_ok-h-in_default t c =
    let x = c.args in
    returned.seq-both x.s.now x.self.now x.depth c.requires.room c.item.new.self c.in_ok-g-in_default.g c.in_ok-g-in_default.ensures c.sequence.new.self c.in_ok-h-in_default.h c.in_ok-h-in_default.ensures c.push-in_default.new.self c.push-in_default.result c.push-in_default.ensures.number c.push-in_default.ensures.words

pub sequence-returns-in-Set : goal.sequence-returns-in-Set
sequence-returns-in-Set t c =
    let x = c.args in
    returned.seq-pass x.s.now x.self.now x.depth c.requires.room (told c.token_at-l.result.size (Ok c.in-Ok.token)) (sym (rw c.in-Ok.is at c.token_at-l.ensures)) c.in-Set.after c.sequence-in-Set.new.self c.sequence-in-Set.result (passes c.in-Ok.token c.in-Set.after c.in-Set.is) c.sequence-in-Set.ensures
