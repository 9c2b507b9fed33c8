use Rattle.std.proofs.{Common.append-nil, Math.Seq.drop-append_seam}
use Rattle.std.proofs.lemmas.{List.drop-drop, Nat.ones-le, Simd.chunk-drop, Simd.length-chunk, Simd.length-put_chunk, Simd.put_chunk_is}
use lib.Count.{ones}
use Rattle.wtf8_core.proofs.lemmas.buffers.Truncated.{whole}
use Rattle.platform_str.specs.ToWide.{chosen}
use Rattle.platform_str.proofs.Common.{◌≡◌, ℕ, ◌+◌, ◌≤◌, List, ◌++◌, length, length-append, take, drop, chunk, put_chunk, sym, ap, ◌∙◌, arith, length-take-le, take_all, IsTruncated}
use Rattle.platform_str.proofs.lemmas.LaneTests.{take_prefix_put_chunk}
use Rattle.platform_str.proofs.wide_buffer.push_in_room.Goals as goal

-- units are written where there is room for them, and nothing after them is changed
put_after : (text old now new more : List ℕ) (count end : ℕ) → IsTruncated text old now count → take end new ≡ take count now ++ more → drop end new ≡ drop end now → length new ≡ length now → count ≤ end → end ≤ length now
    → IsTruncated (text ++ more) old new end
put_after text old now new more count end h written after len from room =
    let l = h.same_length in
    let k = h.count_is in
    let n = length more in
    let e : end ≡ count + n = omega (arith, ap length written, length-take-le end new (omega (arith, len, room)), length-append (take count now) more, length-take-le count now (omega (arith, from, room))) in
    let joined = length-append text more in
    record {
      same_length = len ∙ l;
      count_is = omega arith;
      prefix = take_all (length old) (text ++ more) (omega arith) ∙ ap (λ d. d ++ more) (sym (whole text old now count h (omega arith))) ∙ sym written;
      after = after ∙ ap (λ m. drop m now) e ∙ sym (drop-drop n count now) ∙ ap (drop n) h.after ∙ drop-drop n count old ∙ ap (λ m. drop m old) (sym e);
    }

-- four units are put back where they were overwritten
put_back : (now new : List ℕ) (end : ℕ) → end + 4 ≤ length now → length new ≡ length now → drop (end + 4) new ≡ drop (end + 4) now → drop end (put_chunk end new (chunk end 4 now)) ≡ drop end now
put_back now new end room len after =
    let kept = chunk end 4 now in
    let four = length-chunk end 4 now room in
    let rest = kept ++ drop (length kept) (drop end new) in
    ap (drop end) (put_chunk_is end new kept (omega (arith, four, room, len)))
    ∙ ap (λ k. drop k (take end new ++ rest)) (sym (length-take-le end new (omega (arith, room, len)))) ∙ drop-append_seam (take end new) rest
    ∙ ap (λ n. kept ++ drop n (drop end new)) four ∙ ap (λ r. kept ++ r) (drop-drop 4 end new ∙ after) ∙ sym (chunk-drop end 4 now)

pub returns-clause-written : goal.returns-clause-written
returns-clause-written c = λ text old h.
    let now = c.args.buffer.now in
    let put = c.put_chosen.ensures in
    let new = c.put_chosen.new.units in
    let end = c.args.count + ones c.args.mask in
    let few = ones-le 16 c.args.mask c.requires.bits in
    let kept = chunk end 4 now in
    let four = length-chunk end 4 now (omega (arith, few, c.requires.room)) in
    let same : end ≡ end + 0 = omega arith in
    let before = ap (λ k. take k (put_chunk end new kept)) same ∙ take_prefix_put_chunk end 0 new kept (omega (arith, four, few, put.len, c.requires.room)) (omega arith) ∙ append-nil (take end new) in
    put_after text old now (put_chunk end new kept) (chosen c.args.lanes c.args.mask) c.args.count end h
    (before ∙ rw put.end at put.written) (put_back now new end (omega (arith, few, c.requires.room)) put.len (rw put.end at put.after_four))
    (length-put_chunk end new kept ∙ put.len) (omega arith) (omega (arith, few, c.requires.room))
