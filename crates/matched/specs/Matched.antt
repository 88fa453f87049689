-- The matched bytes, from a kept tail or from the block right after it. Offsets are those of the
-- stream. Assumes nothing: these are definitions.
use Rattle.std.specs.Prelude.{Bool, true, false, cond, ◌&&◌, List, [], ℕ, ◌+◌, ◌-◌, leb, length, take, drop}
use Rattle.matched.specs.declared.Part.{Part}

-- the block, from `offset` on, has every offset from `start` up to `end`
unfoldable pub in_block : List ℕ → (offset start end : ℕ) → Bool
in_block block offset start end = leb offset start && (leb start end && leb end (offset + length block))

-- so has the tail, which ends at `offset`; it may be longer than the stream before the block
unfoldable pub in_tail : List ℕ → (offset start end : ℕ) → Bool
in_tail tail offset start end = leb offset (start + length tail) && (leb start end && leb end offset)

-- "show the matched bytes from the tail or from the block, whichever holds them all, the block
-- first if both could (only an empty range at the block's offset)"; "On a refusal the first none of
-- the block are shown"
unfoldable pub matched_bytes : (tail block : List ℕ) → (offset start end : ℕ) → List ℕ
matched_bytes tail block offset start end =
    cond (in_block block offset start end) (take (end - start) (drop (start - offset) block))
    (cond (in_tail tail offset start end) (take (end - start) (drop (start + length tail - offset) tail))
    [])

-- where these bytes stand, by a place and a size in the tail or in the block
unfoldable pub matched_part : (tail block : List ℕ) → (offset start end : ℕ) → Part
matched_part tail block offset start end =
    cond (in_block block offset start end) (record { tail = false; place = start - offset; size = end - start })
    (cond (in_tail tail offset start end) (record { tail = true; place = start + length tail - offset; size = end - start })
    (record { tail = false; place = 0; size = 0 }))

-- the bytes of such a part
unfoldable pub part_bytes : (tail block : List ℕ) → Part → List ℕ
part_bytes tail block p = take p.size (drop p.place (cond p.tail tail block))

-- "refused with 25 if neither does, or if start is above end"; "a second question on the same
-- inputs gives the number"
unfoldable pub matched_number : (tail block : List ℕ) → (offset start end : ℕ) → ℕ
matched_number tail block offset start end = cond (in_block block offset start end) 0 (cond (in_tail tail offset start end) 0 25)
