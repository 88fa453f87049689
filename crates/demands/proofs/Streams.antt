-- Demand 3 of one stream on one table whose automaton is that of some rules: the list of calls is
-- the joined bytes in one go (Lawful), and those report the one ordered list (Whole). First of any
-- kind, then of streams without starts. Assumes nothing.
use mathlib.Core.Path.{◌≡◌, refl, sym, ap₂, ◌∙◌}
use mathlib.Core.Logic.{◌↔◌}
use mathlib.Core.Bool.{false}
use mathlib.Core.List.{List, ◌++◌, map, map-append, Memᴰ}
use Prim.Native.Nat.{ℕ, suc, ◌-◌, ◌^◌, ◌<◌}
use native.Mathlib.Omega.{arith}
use lib.ListN.{length, get_or}
use Rattle.table.specs.Automaton.{Automaton, automaton}
use Rattle.stream.specs.declared.Stream.{Stream}
use Rattle.stream.specs.Byte.{Machine, after, byte_state, plain, state_after, close_reports}
use Rattle.stream.specs.Calls.{Lists, Call, fresh, shut}
use Rattle.meaning.specs.Rule.{Rule, ByteSet}
use Rattle.meaning.specs.Ordered.{closing_moment, IsList, Report, report, Ordered}
use Rattle.meaning.proofs.Starts.{start-without}
use Rattle.demands.specs.Kinds.{Kind, short}
use Rattle.demands.specs.Chain.{Item, bytes_of, reports_of, OthersRefused, Closes, Blocks}
use Rattle.demands.proofs.Carried.{Carries, Within}
use Rattle.demands.proofs.TwoRuns.{Told, Turn}
use Rattle.demands.proofs.Tracked.{Tracked, Counts, opens, all-count, all-wait, tracked, byte-tested, closing-tested}
use Rattle.demands.proofs.Whole.{byte_entries, entries_of, closing_of, whole_of, whole}
use Rattle.stream.proofs.Blocks.{taken-after}
use Rattle.demands.proofs.Bytewise.{startless, plain_at, plain_end, entries-given, byte-given, closing-given}
use Rattle.demands.proofs.Lawful.{Lawful, chained, joined_bytes}
use Rattle.demands.proofs.Short.{lawful}

-- what a machine goes by at each moment is right, so what the calls report is the ordered list
pub ordered-by : {S L C R : Type 0} (k : Kind S L C) (t : List ℕ) (m : Machine S R) (out : R → Report) (final : S → List R) (ended : S → S) → Lawful k t m out final ended
    → (rules : List Rule) (s : S) → (k.stream s).closed ≡ false → (l : List (Item L C)) → OthersRefused k t s l → Closes k t s l → (at : ℕ → Told) (last : Told)
    → IsList rules (bytes_of k t s l) (whole_of (automaton t) at (length (bytes_of k t s l)) last)
    → ((i : ℕ) → map report (byte_entries (automaton t) at i) ≡ map out (m.reports (after m s (bytes_of k t s l) i) (get_or (bytes_of k t s l) i 0)))
    → map report (closing_of (automaton t) at (length (bytes_of k t s l)) last) ≡ map out (final (after m s (bytes_of k t s l) (length (bytes_of k t s l))))
    → Ordered rules (bytes_of k t s l) (reports_of k t s l)
unfolding whole_of
ordered-by k t m out final ended law rules s running l h c at last list each closing =
    let bytes : List ℕ = bytes_of k t s l in
    record {
      list = whole_of (automaton t) at (length bytes) last;
      is_list = list;
      given = map-append report (entries_of (automaton t) at (length bytes)) (closing_of (automaton t) at (length bytes) last)
          ∙ ap₂ (λ (x y : List Report). x ++ y) (entries-given (automaton t) out m s bytes at each (length bytes)) closing
          ∙ sym (chained k t m out final ended law l s running h c);
    }

module _ (t : List ℕ) (rule : ℕ → Rule) (from : ℕ → ℕ) (tab : ℕ → ByteSet) (enc : Carries (automaton t) rule from tab) (rules : List Rule)
    (listed : (r : Rule) → Memᴰ r rules ↔ ((a : ℕ) × (a < (automaton t).rules) × (r ≡ rule a))) (n p : ℕ)
    (without : (a : ℕ) → a < (automaton t).rules → (rule a).starts ≡ false)
    (none : (a : ℕ) → a < (automaton t).rules → (q : ℕ) → Within (from a) (rule a) q → (rule a).windows.smallest_length ≡ 0) where
  abbrev w : Automaton
  w = automaton t

  abbrev s : Stream
  s = fresh n p false

  abbrev last : List ℕ → Stream
  last bytes = state_after w s bytes (length bytes)

  -- at every moment the tests and the marks say what they must, and 0 is the start
  module _ (bytes : List ℕ) (few : length bytes < 2 ^ 64) (small : (i : ℕ) → i < length bytes → get_or bytes i 0 < 256) where
    at : (k : ℕ) → k < suc (length bytes) → Tracked w rule from tab enc bytes few k (state_after w s bytes k)
    at k le = tracked w rule from tab enc bytes few none small s (opens w rule from tab enc bytes few s refl refl refl refl refl) k (omega arith)

    -- all positions count
    counts : (k : ℕ) (le : k < suc (length bytes)) → Counts w rule from tab enc bytes few k (state_after w s bytes k)
    counts k le = all-count w rule from tab enc bytes few none k (state_after w s bytes k) (at k le).alive

    turn : (k : ℕ) → k < length bytes → Turn w rule from tab enc bytes (suc k) k (suc k) (plain_at w s bytes k)
    unfolding plain_at after byte_state
    turn k lk = record {
      tested = byte-tested w rule from tab enc bytes few k lk (state_after w s bytes k) (state_after w s bytes (suc k)) (counts k (omega arith)) (counts (suc k) (omega arith))
          (state_after w s bytes k).reported (at k (omega arith)).marks;
      first_is = λ a lt some f. (start-without bytes (rule a) (suc k) k (without a lt) 0).1 refl;
      second_is = λ a lt f. (start-without bytes (rule a) (suc k) (suc k) (without a lt) 0).1 refl;
    }

    close : Turn w rule from tab enc bytes (closing_moment bytes) (length bytes - 1) (length bytes) (plain_end w (last bytes))
    unfolding plain_end
    close = let end = at (length bytes) (omega arith) in record {
      tested = closing-tested w rule from tab enc bytes few (last bytes) (counts (length bytes) (omega arith))
          (all-wait w rule from tab enc bytes few none (length bytes) (last bytes) end.waits) end.pending end.marks;
      first_is = λ a lt some f. (start-without bytes (rule a) (closing_moment bytes) (length bytes - 1) (without a lt) 0).1 refl;
      second_is = λ a lt f. (start-without bytes (rule a) (closing_moment bytes) (length bytes) (without a lt) 0).1 refl;
    }

  pub ordered : (l : List (Item Lists Call)) → OthersRefused short t s l → Closes short t s l → Blocks short l → length (bytes_of short t s l) < 2 ^ 64
      → Ordered rules (bytes_of short t s l) (reports_of short t s l)
  ordered l h c b few =
      let bytes : List ℕ = bytes_of short t s l in
      let small = joined_bytes short t l s h b in
      ordered-by short t (plain w) startless (close_reports w) shut (lawful t) rules s refl l h c (plain_at w s bytes) (plain_end w (last bytes))
      (whole w rule from tab enc rules listed bytes (plain_at w s bytes) (turn bytes few small) (plain_end w (last bytes)) (close bytes few small))
      (byte-given w s bytes refl) (closing-given w (plain_at w s bytes) (length bytes) (last bytes) (omega (arith, taken-after w s bytes (length bytes))))
