-- A buffer that may be too short as a sink.
use Rattle.std.specs.Prelude.{◌≡◌, ℕ, ◌+◌, ◌<◌, ◌^◌, List, [], ◌++◌, length}
use Rattle.std.proofs.Common.{refl, sym, ◌∙◌, subst, arith, append_assoc, append-nil, length-append}
use Rattle.wtf8_core.specs.Truncated.{IsTruncated}
use Rattle.platform_str.specs.{Sinks.SinkRules, declared.sink.TruncatedBuffer.TruncatedBuffer}

-- `more` is appended to a text of `count` bytes in a buffer, truncated to the buffer's length, and `len` is the length of both
abbrev pub Pushes : List ℕ → List ℕ → ℕ → List ℕ → ℕ → Type 0
Pushes more old count new len = ((text buffer : List ℕ) → IsTruncated text buffer old count → IsTruncated (text ++ more) buffer new len) × (len ≡ count + length more)

-- what it took was appended in the same buffer
abbrev pub BufferTook : TruncatedBuffer → List ℕ → TruncatedBuffer → Type 0
BufferTook b text c = (c.bytes.ghost_name ≡ b.bytes.ghost_name) × Pushes text b.bytes.now b.count c.bytes.now c.count

pub push_nothing : (old : List ℕ) (count : ℕ) → Pushes [] old count old count
push_nothing old count = (λ text buffer h. subst (λ t. IsTruncated t buffer old count) (sym (append-nil text)) h, omega arith)

pub push_both : {a b old now new : List ℕ} {n m k : ℕ} → Pushes a old n now m → Pushes b now m new k → Pushes (a ++ b) old n new k
push_both {a} {b} {old} {now} {new} {n} {m} {k} p q = (
  λ text buffer h. subst (λ t. IsTruncated t buffer new k) (append_assoc text a b) (q.0 (text ++ a) buffer (p.0 text buffer h)),
  omega (arith, p.1, q.1, length-append a b),
)

-- it has room while the length has a number, and rejects nothing
abbrev pub buffer_rules : SinkRules TruncatedBuffer
buffer_rules = record {
  took = BufferTook;
  has_room = λ b text. b.count + length text < 2 ^ 64;
  rejects = λ b text c. ⊥;
  took_nothing = λ b. (refl, push_nothing b.bytes.now b.count);
  took_both = λ b c d s t p q. (q.0 ∙ p.0, push_both p.1 q.1);
  room_before = λ b s t room. omega (arith, room, length-append s t);
  room_after = λ b c s t took room. omega (arith, room, took.1.1, length-append s t);
  rejects_after = λ b c d s t u took rejected. rejected;
}
