-- What watching keeps, for streams with starts and without: a scan of what is left of a block is
-- accepted, so it takes a byte, and the states after two parts of a block are the state after both.
use mathlib.Core.Path.{◌≡◌, refl, sym, ap, subst, ◌∙◌}
use mathlib.Core.Bool.{Bool, true, false, ◌&&◌}
use mathlib.Core.List.{List}
use Prim.Native.Nat.{ℕ, ◌+◌, ◌-◌, ◌≤◌, ◌<◌}
use native.Mathlib.Omega.{arith}
use lib.Dec.{leb}
use lib.IntN.{ℤ}
use lib.ListN.{length, take, drop, length-drop}
use lib.Seq.{length-take-le}
use borrow.Author.Tests.{le-leb}
use Rattle.std.specs.Prelude.{Result}
use Rattle.std.specs.Result.{IsOk}
use Rattle.refusals.specs.declared.Refusal.{Refusal}
use Rattle.lines.specs.Numbers.{askable}
use Rattle.lines.proofs.Laws.{askable-limit}
use Rattle.table.specs.Layout.{table_words}
use Rattle.table.specs.Table.{is_table}
use Rattle.table.specs.Automaton.{Automaton, automaton}
use Rattle.table.proofs.Test.{passes}
use Rattle.stream.specs.declared.Stream.{Stream}
use Rattle.stream.specs.declared.Progress.{Progress}
use Rattle.stream.specs.declared.Ending.{Ending}
use Rattle.stream.specs.Calls.{Scanned, Closed}
use Rattle.stream.specs.Byte.{after, state_after}
use Rattle.stream.specs.Valid.{stream_limit, needs_starts}
use Rattle.stream.specs.Calls as stream
use Rattle.stream.proofs.Accepting as stream-accepting
use Rattle.stream.proofs.Accepting.{fitting, fitted}
use Rattle.stream.proofs.Machines.{after-later}
use Rattle.stream.proofs.Blocks.{blank, taken-after, closed_after}
use Rattle.stream.proofs.Results as stream-results
use Rattle.stream.proofs.Results.{fitting-after, opened-stream}
use Rattle.traced.specs.declared.Traced.{Traced}
use Rattle.traced.specs.declared.Progress as trace-progress
use Rattle.traced.specs.declared.Ending as trace-ending
use Rattle.traced.specs.Calls.{Scanned as Trace-scanned, Closed as Trace-closed}
use Rattle.traced.specs.Calls as traced
use Rattle.traced.proofs.Accepting as traced-accepting
use Rattle.traced.proofs.Same.{stream_after}
use Rattle.traced.proofs.Results as traced-results
use Rattle.watcher.proofs.Keeping.{rest-is}
use Rattle.watcher.specs.Invariants.{Way, pairs, traces, Running, Roomy, Wide}

-- ---- what both kinds of stream have

-- the stream of a state goes its own way, and a state that fits goes on fitting
pub record Lawful {S R : Type 0} (k : Way S R) : Type 0 where
  pub follows : (w : Automaton) (s : S) (block : List ℕ) (n : ℕ) → blank (k.stream (after (k.machine w) s block n)) ≡ blank (state_after w (k.stream s) block n)
  pub limited : (w : Automaton) (s : S) → k.valid w s ≡ true → (k.stream s).taken ≤ stream_limit
  pub stays : (w : Automaton) (s : S) (block : List ℕ) (n : ℕ) → k.valid w s ≡ true → (k.stream s).taken + n ≤ stream_limit
      → k.valid w (after (k.machine w) s block n) ≡ true

-- a scan of some bytes takes one, if there is one, and none beyond them
pub record Scans {S R : Type 0} (k : Way S R) (t : List ℕ) (s : S) (block : List ℕ) (taken : ℕ) (next : S) : Type 0 where
  pub some : 0 < length block → 0 < taken
  pub within : taken ≤ length block
  pub state : next ≡ after (k.machine (automaton t)) s block taken

-- ---- a block

module _ {S R : Type 0} (k : Way S R) where
  -- the loop over a block: the bytes passed are taken
  pub record Half (t block : List ℕ) (s now : S) (from : ℕ) : Type 0 where
    pub passed : from ≤ length block
    pub state : now ≡ after (k.machine (automaton t)) s block from

  pub begins : (t block : List ℕ) (s : S) → Half t block s s 0
  unfolding after
  begins t block s = record { passed = omega arith; state = refl }

  -- at the end all is taken
  pub whole : (t block : List ℕ) (s now : S) (from : ℕ) → Half t block s now from → length block ≤ from
      → now ≡ after (k.machine (automaton t)) s block (length block)
  whole t block s now from h end = let n : from ≡ length block = omega (arith, h.passed) in h.state ∙ ap (after (k.machine (automaton t)) s block) n

  module _ (law : Lawful k) (t : List ℕ) where
    -- after some bytes of a block the stream runs on, and is longer
    runs_after : (s : S) (block : List ℕ) (n : ℕ) → Running k t s → (k.stream s).taken + n ≤ stream_limit → Running k t (after (k.machine (automaton t)) s block n)
    runs_after s block n h l = record {
      table = h.table;
      fits = law.stays (automaton t) s block n h.fits l;
      going = ap (λ (x : Stream). x.closed) (law.follows (automaton t) s block n) ∙ closed_after (automaton t) (k.stream s) block n ∙ h.going;
    }

    longer-by : (s : S) (block : List ℕ) (n : ℕ) → (k.stream (after (k.machine (automaton t)) s block n)).taken ≡ (k.stream s).taken + n
    longer-by s block n = ap (λ (x : Stream). x.taken) (law.follows (automaton t) s block n) ∙ taken-after (automaton t) (k.stream s) block n

    module _ (s next : S) (block : List ℕ) (e : next ≡ after (k.machine (automaton t)) s block (length block)) where
      pub runs_on : Running k t s → (k.stream s).taken + length block ≤ stream_limit → Running k t next
      runs_on h l = subst (Running k t) (sym e) (runs_after s block (length block) h l)

      pub longer : (k.stream next).taken ≡ (k.stream s).taken + length block
      longer = ap (λ (x : S). (k.stream x).taken) e ∙ longer-by s block (length block)

    -- what may be asked for fits
    pub asked-fits : (s : S) (room size : ℕ) → Running k t s → size ≤ askable (k.stream s).taken room → (k.stream s).taken + size ≤ stream_limit
    asked-fits s room size h l = omega (arith, askable-limit (k.stream s).taken room (law.limited (automaton t) s h.fits))

    -- half way through a block the stream runs, and the rest fits
    module _ (block : List ℕ) (s now : S) (from : ℕ) (h : Running k t s) (short : (k.stream s).taken + length block ≤ stream_limit) (half : Half t block s now from) where
      pub runs : Running k t now
      runs = subst (Running k t) (sym half.state) (runs_after s block from h (omega (arith, half.passed)))

      pub fits : (k.stream now).taken + length (drop from block) ≤ stream_limit
      fits = omega (arith, length-drop from block, ap (λ (x : S). (k.stream x).taken) half.state ∙ longer-by s block from, half.passed)

      module _ (taken : ℕ) (next : S) (scans : Scans k t now (drop from block) taken next) where
        pub next-takes : from < length block → (0 < taken) × (from + taken ≤ length block)
        next-takes l = (scans.some (omega (arith, length-drop from block)), omega (arith, scans.within, length-drop from block, half.passed))

        pub next-half : Half t block s next (from + taken)
        next-half = record {
          passed = omega (arith, scans.within, length-drop from block, half.passed);
          state =
              scans.state
              ∙ ap (λ (x : S). after (k.machine (automaton t)) x (drop from block) taken) half.state
              ∙ sym (after-later (k.machine (automaton t)) s block from taken);
        }

-- the loop over the input: the stream runs on, and there is room for its reports
pub record Input {S R : Type 0} (k : Way S R) (t ids offsets : List ℕ) (now : S) : Type 0 where
  pub runs : Running k t now
  pub room : Roomy ids offsets

-- a block that was read, of which no more was asked for than the stream may still take
module _ {S R : Type 0} (k : Way S R) (law : Lawful k) (t block : List ℕ) (s : S) (size room : ℕ) (h : Running k t s) (within : size ≤ length block)
    (most : size ≤ askable (k.stream s).taken room) where
  pub asked : (k.stream s).taken + length (take size block) ≤ stream_limit
  asked = omega (arith, length-take-le size block within, asked-fits k law t s room size h most)

-- and the state after it
pub record Grown {S R : Type 0} (k : Way S R) (t : List ℕ) (s next : S) (size : ℕ) : Type 0 where
  pub runs : Running k t next
  pub longer : (k.stream next).taken ≡ (k.stream s).taken + size
  pub limited : (k.stream s).taken + size ≤ stream_limit

pub grown : {S R : Type 0} (k : Way S R) → Lawful k → (t block : List ℕ) (s next : S) (size room : ℕ) → Running k t s → size ≤ length block
    → size ≤ askable (k.stream s).taken room → next ≡ after (k.machine (automaton t)) s (take size block) (length (take size block)) → Grown k t s next size
grown k law t block s next size room h within most e =
    let fit = asked k law t block s size room h within most in
    let long = length-take-le size block within in
    record {
      runs = runs_on k law t s next (take size block) e h fit;
      longer = omega (arith, long, longer k law t s next (take size block) e);
      limited = omega (arith, long, fit);
    }

-- ---- without starts

pub pair-law : Lawful pairs
pair-law = record {
  follows = λ w s block n. refl;
  limited = λ w s v. (fitting w s (stream-accepting.valid-parts w s v).0).limit;
  stays = λ w s block n v l.
      let parts = stream-accepting.valid-parts w s v in
      stream-accepting.valid-is w _ (fitted w _ (fitting-after w s block (fitting w s parts.0) n l)) parts.1;
}

-- a table of which it was asked needs no start
pub startless : (t : List ℕ) → is_table t ≡ true → (b : Bool) → b ≡ (leb table_words (length t) && needs_starts (automaton t)) → b ≡ false → needs_starts (automaton t) ≡ false
startless t e b is none =
    sym (ap (λ (c : Bool). c && needs_starts (automaton t)) (le-leb table_words (length t) (passes t e).long)) ∙ sym is ∙ none

pub opened-runs : (t : List ℕ) → is_table t ≡ true → needs_starts (automaton t) ≡ false → Running pairs t (stream.opened t).stream
opened-runs t e none = record { table = e; fits = stream-results.opened-valid t e none; going = ap (λ (s : Stream). s.closed) (opened-stream t e) }

-- the program sets no limit to the work of a scan: of a running stream it is accepted
abbrev unlimited : (block ids offsets : List ℕ) → stream.Call
unlimited block ids offsets = stream.call 0xffff_ffff_ffff_ffff block (stream.lists ids offsets)

module _ (t : List ℕ) (s : Stream) (block ids offsets : List ℕ) (h : Running pairs t s) (short : s.taken + length block ≤ stream_limit) (room : Roomy ids offsets) where
  abbrev c : stream.Call
  c = unlimited block ids offsets

  number : (stream.scanned t s c).number ≡ 0
  number =
      stream-results.scan-number t s c
      ∙ sym (stream-accepting.not-refused t s (length block) (stream.space c.slots) h.table h.fits h.going (omega arith) (omega (arith, (passes t h.table).rules)))

  scans : Scans pairs t s block (stream.scanned t s c).taken (stream.scanned t s c).stream
  scans = record {
    some = stream-results.progress t s c number (omega arith);
    within = stream-results.taken-within t s c;
    state = stream-results.scan_state t s c number;
  }

-- the next scan, of the rest as a part of the block
pub pair-scans : (t block : List ℕ) (now : Stream) (from : ℕ) (ids offsets : List ℕ) → Running pairs t now → now.taken + length (drop from block) ≤ stream_limit → Roomy ids offsets
    → (r : Scanned) → r ≡ stream.scanned t now (unlimited (take (length block - from) (drop from block)) ids offsets) → Scans pairs t now (drop from block) r.taken r.stream
pair-scans t block now from ids offsets h short room r e =
    subst (λ (r : Scanned). Scans pairs t now (drop from block) r.taken r.stream)
    (ap (λ (rest : List ℕ). stream.scanned t now (unlimited rest ids offsets)) (sym (rest-is block from)) ∙ sym e)
    (scans t now (drop from block) ids offsets h short room)

-- half way through a block
pub pair-step : (t block : List ℕ) (s now : Stream) (from : ℕ) (ids offsets : List ℕ) → Running pairs t s → s.taken + length block ≤ stream_limit
    → Half pairs t block s now from → Roomy ids offsets
    → (r : Scanned) → r ≡ stream.scanned t now (unlimited (take (length block - from) (drop from block)) ids offsets) → Scans pairs t now (drop from block) r.taken r.stream
pair-step t block s now from ids offsets h short half room =
    pair-scans t block now from ids offsets (runs pairs pair-law t block s now from h short half) (fits pairs pair-law t block s now from h short half) room

-- so the next scan is accepted, and so is the closing
pub pair-ok : (t block : List ℕ) (s now : Stream) (from : ℕ) (ids offsets : List ℕ) → Running pairs t s → s.taken + length block ≤ stream_limit
    → Half pairs t block s now from → Roomy ids offsets
    → (r : Result Progress Refusal) → stream.scanned_of now r ≡ stream.scanned t now (unlimited (take (length block - from) (drop from block)) ids offsets) → IsOk r
pair-ok t block s now from ids offsets h short half room r e =
    stream-results.scan-ok now r
    (ap (λ (a : Scanned). a.number) (e ∙ ap (λ (rest : List ℕ). stream.scanned t now (unlimited rest ids offsets)) (rest-is block from))
    ∙ number t now (drop from block) ids offsets (runs pairs pair-law t block s now from h short half) (fits pairs pair-law t block s now from h short half) room)

pub pair-closes : (t : List ℕ) (s : Stream) (ids offsets : List ℕ) → Running pairs t s → Roomy ids offsets
    → (r : Result Ending Refusal) → stream.closed_of s r ≡ stream.closed t s (stream.lists ids offsets) → IsOk r
pair-closes t s ids offsets h room r e =
    let l = stream.lists ids offsets in
    stream-results.close-ok s r
    (ap (λ (a : Closed). a.number) e ∙ stream-results.close-number-is t s l ∙ sym (stream-accepting.close-number t s (stream.space l))
    ∙ sym (stream-accepting.not-refused t s 0 (stream.space l) h.table h.fits h.going (omega (arith, pair-law.limited (automaton t) s h.fits)) (omega (arith, (passes t h.table).rules))))

-- ---- with starts

pub trace-law : Lawful traces
trace-law = record {
  follows = stream_after;
  limited = λ w z v. (fitting w z.stream (traced-accepting.valid-parts w z v).0).limit;
  stays = λ w z block n v l.
      let parts = traced-accepting.valid-parts w z v in
      traced-results.valid-after w z block (fitting w z.stream parts.0) parts.1 n l;
}

pub opened-traces : (t : List ℕ) → is_table t ≡ true → Running traces t (traced.opened t).traced
opened-traces t e = record { table = e; fits = traced-results.opened-fits t e; going = ap (λ (s : Stream). s.closed) (traced-results.opened-is t e) }

abbrev unlimited-trace : (block ids offsets starts : List ℕ) (relatives : List ℤ) → traced.Call
unlimited-trace block ids offsets starts relatives = traced.call 0xffff_ffff_ffff_ffff block (traced.lists ids offsets starts relatives)

module _ (t : List ℕ) (z : Traced) (block ids offsets starts : List ℕ) (relatives : List ℤ) (h : Running traces t z)
    (short : z.stream.taken + length block ≤ stream_limit) (room : Wide ids offsets starts relatives) where
  abbrev d : traced.Call
  d = unlimited-trace block ids offsets starts relatives

  trace-number : (traced.scanned t z d).number ≡ 0
  trace-number =
      traced-results.scan-number t z d
      ∙ sym (traced-accepting.not-refused t z (length block) (traced.space d.slots) h.table h.fits h.going (omega arith) (omega (arith, (passes t h.table).rules)))

  traced-scans : Scans traces t z block (traced.scanned t z d).taken (traced.scanned t z d).traced
  traced-scans = record {
    some = traced-results.progress t z d trace-number (omega arith);
    within = traced-results.taken-within t z d trace-number;
    state = traced-results.scan_state t z d trace-number;
  }

pub trace-scans : (t block : List ℕ) (now : Traced) (from : ℕ) (ids offsets starts : List ℕ) (relatives : List ℤ) → Running traces t now
    → now.stream.taken + length (drop from block) ≤ stream_limit → Wide ids offsets starts relatives
    → (r : Trace-scanned) → r ≡ traced.scanned t now (unlimited-trace (take (length block - from) (drop from block)) ids offsets starts relatives)
    → Scans traces t now (drop from block) r.taken r.traced
trace-scans t block now from ids offsets starts relatives h short room r e =
    subst (λ (r : Trace-scanned). Scans traces t now (drop from block) r.taken r.traced)
    (ap (λ (rest : List ℕ). traced.scanned t now (unlimited-trace rest ids offsets starts relatives)) (sym (rest-is block from)) ∙ sym e)
    (traced-scans t now (drop from block) ids offsets starts relatives h short room)

-- half way through a block
pub trace-step : (t block : List ℕ) (z now : Traced) (from : ℕ) (ids offsets starts : List ℕ) (relatives : List ℤ) → Running traces t z
    → z.stream.taken + length block ≤ stream_limit → Half traces t block z now from → Wide ids offsets starts relatives
    → (r : Trace-scanned) → r ≡ traced.scanned t now (unlimited-trace (take (length block - from) (drop from block)) ids offsets starts relatives)
    → Scans traces t now (drop from block) r.taken r.traced
trace-step t block z now from ids offsets starts relatives h short half room =
    trace-scans t block now from ids offsets starts relatives (runs traces trace-law t block z now from h short half) (fits traces trace-law t block z now from h short half) room

-- so the next scan is accepted, and so is the closing
pub trace-ok : (t block : List ℕ) (z now : Traced) (from : ℕ) (ids offsets starts : List ℕ) (relatives : List ℤ) → Running traces t z
    → z.stream.taken + length block ≤ stream_limit → Half traces t block z now from → Wide ids offsets starts relatives
    → (r : Result trace-progress.Progress Refusal) → traced.scanned_of now r ≡ traced.scanned t now (unlimited-trace (take (length block - from) (drop from block)) ids offsets starts relatives) → IsOk r
trace-ok t block z now from ids offsets starts relatives h short half room r e =
    traced-results.scan-ok now r
    (ap (λ (a : Trace-scanned). a.number) (e ∙ ap (λ (rest : List ℕ). traced.scanned t now (unlimited-trace rest ids offsets starts relatives)) (rest-is block from))
    ∙ trace-number t now (drop from block) ids offsets starts relatives (runs traces trace-law t block z now from h short half) (fits traces trace-law t block z now from h short half) room)

pub trace-closes : (t : List ℕ) (z : Traced) (ids offsets starts : List ℕ) (relatives : List ℤ) → Running traces t z → Wide ids offsets starts relatives
    → (r : Result trace-ending.Ending Refusal) → traced.closed_of z r ≡ traced.closed t z (traced.lists ids offsets starts relatives) → IsOk r
trace-closes t z ids offsets starts relatives h room r e =
    let l = traced.lists ids offsets starts relatives in
    traced-results.close-ok z r
    (ap (λ (a : Trace-closed). a.number) e ∙ traced-results.close-number-is t z l ∙ sym (traced-accepting.close-number t z (traced.space l))
    ∙ sym (traced-accepting.not-refused t z 0 (traced.space l) h.table h.fits h.going (omega (arith, trace-law.limited (automaton t) z h.fits)) (omega (arith, (passes t h.table).rules))))
