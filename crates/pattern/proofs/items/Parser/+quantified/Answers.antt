-- The quantifier's reader meets its contract: the token at the place is a note, a quantifier with a
-- fault, one without, or something else. Each return is a law of `Returns`.
use mathlib.Core.Path.{refl, sym, ap}
use native.Mathlib.Omega.{arith}
use Rattle.std.specs.Prelude.{Ok, Err}
use Rattle.tokens.specs.declared.Token.TheVariants as code
use Rattle.tokens.specs.Answer.{token, told}
use Rattle.pattern.proofs.Keys.{other-token}
use Rattle.pattern.proofs.Returns as returned
use Rattle.pattern.proofs.items.Parser.+quantified.Goals as goal

pub returns-in-Err : goal.returns-in-Err
returns-in-Err t c =
    let x = c.args in
    returned.quantified-none x.s.now x.self.now x.root c.requires.room (told c.token_at-l.result.size (Err c.in-Err.field-0)) (sym (rw c.in-Err.is at c.token_at-l.ensures)) tt

pub overflow_add-self : goal.overflow_add-self
overflow_add-self t c =
    let x = c.args in
    let f = returned.note-inside x.s.now x.self.now x.root c.requires.room (told c.token_at-l.result.size (Ok c.in-Ok.token)) (sym (rw c.in-Ok.is at c.token_at-l.ensures)) c.in-Note.after (ap token c.in-Note.is) in omega arith

pub quantified-requires : goal.quantified-requires
quantified-requires t c =
    let x = c.args in
    let f = returned.note-inside x.s.now x.self.now x.root c.requires.room (told c.token_at-l.result.size (Ok c.in-Ok.token)) (sym (rw c.in-Ok.is at c.token_at-l.ensures)) c.in-Note.after (ap token c.in-Note.is) in
    (omega (arith, c.decreases), (returned.note-room x.s.now x.self.now x.root c.requires.room (told c.token_at-l.result.size (Ok c.in-Ok.token)) (sym (rw c.in-Ok.is at c.token_at-l.ensures)) c.in-Note.after (ap token c.in-Note.is), c.requires.root_value))

pub returns-in-Err-copies : goal.returns-in-Err-copies
returns-in-Err-copies t c =
    let x = c.args in
    returned.quantified-fault x.s.now x.self.now x.root c.requires.room (told c.token_at-l.result.size (Ok (code.Repeat (Err c.in-Err-copies.refusal)))) (sym (rw (c.in-Ok.is, c.in-Repeat.is, c.in-Err-copies.is) at c.token_at-l.ensures)) _ _ refl c.in-Err-copies.refusal refl

pub overflow_add-self-in-Repeat : goal.overflow_add-self-in-Repeat
overflow_add-self-in-Repeat t c =
    let x = c.args in
    let f = returned.quantified-inside x.s.now x.self.now x.root c.requires.room (told c.token_at-l.result.size (Ok (code.Repeat (Ok c.in-Ok-copies.copies)))) (sym (rw (c.in-Ok.is, c.in-Repeat.is, c.in-Ok-copies.is) at c.token_at-l.ensures)) _ _ refl refl in omega arith

pub push-requires : goal.push-requires
push-requires t c =
    let x = c.args in
    let b = returned.quantified-bounds x.s.now x.self.now x.root c.requires.room (told c.token_at-l.result.size (Ok (code.Repeat (Ok c.in-Ok-copies.copies)))) (sym (rw (c.in-Ok.is, c.in-Repeat.is, c.in-Ok-copies.is) at c.token_at-l.ensures)) _ _ refl in
    let f = returned.quantified-inside x.s.now x.self.now x.root c.requires.room (told c.token_at-l.result.size (Ok (code.Repeat (Ok c.in-Ok-copies.copies)))) (sym (rw (c.in-Ok.is, c.in-Repeat.is, c.in-Ok-copies.is) at c.token_at-l.ensures)) _ _ refl refl in omega (arith, c.requires)

pub returns-in-Note : goal.returns-in-Note
returns-in-Note t c =
    let x = c.args in
    returned.quantified-note x.s.now x.self.now x.root c.requires.room (told c.token_at-l.result.size (Ok c.in-Ok.token)) (sym (rw c.in-Ok.is at c.token_at-l.ensures)) c.in-Note.after (ap token c.in-Note.is) c.quantified.new.self c.quantified.result c.quantified.ensures

pub returns-in-Ok-copies : goal.returns-in-Ok-copies
returns-in-Ok-copies t c =
    let x = c.args in
    returned.quantified-yes x.s.now x.self.now x.root c.requires.room (told c.token_at-l.result.size (Ok (code.Repeat (Ok c.in-Ok-copies.copies)))) (sym (rw (c.in-Ok.is, c.in-Repeat.is, c.in-Ok-copies.is) at c.token_at-l.ensures)) _ _ refl c.push.new.self c.push.result refl c.push.ensures.number (rw c.more.ensures at c.push.ensures.words)

pub returns-in_default : goal.returns-in_default
returns-in_default t c =
    let x = c.args in
    returned.quantified-none x.s.now x.self.now x.root c.requires.room (told c.token_at-l.result.size (Ok c.in-Ok.token)) (sym (rw c.in-Ok.is at c.token_at-l.ensures)) (other-token c.in-Ok.token c.in_default.not-Note c.in_default.not-Repeat)
