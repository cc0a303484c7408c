-- The two round trips, over what the contracts of `pack` and `read` equate the calls with (specs/Packing.antt, specs/Reading.antt).
-- Assumes nothing.
use Prim.Native.Nat.{ℕ, ◌<◌, ◌≤◌, ◌^◌}
use native.Mathlib.Omega.{arith}
use native.Mathlib.Decide.{ℕ_discrete}
use mathlib.Core.Path.{◌≡◌, refl, sym, ap, ap₂, ◌∙◌}
use mathlib.Core.Logic.{⊎_elim}
use Rattle.std.specs.Prelude.{Option, None, Some}
use Rattle.tree.specs.Calls.{Call, open_line, close_line, Outcome, gives, refuses, gives_unless}
use Rattle.orders.specs.declared.Bytes.{Bytes}
use Rattle.orders.specs.Order.{order_of, bytes_of, kind, line, period, filler, order_with}
use Rattle.orders.specs.Packing.{packing_refusal, packing}
use Rattle.orders.specs.Reading.{reading_refusal, reading, call_of, kind_of, line_of, period_of, Readable}
use Rattle.bits.proofs.FieldLaws.{field_below}
use Rattle.orders.proofs.OrderLaws.{AreBytes, order_below, bytes_of_order, order_of_bytes, order_with_below, kind_with, line_with, period_with, filler_with, order_with_fields}
use Rattle.orders.proofs.PackingChecks.{Packable, packs, packed_is_packable}
use Rattle.orders.proofs.ReadingChecks.{open_read, close_read, read_is_readable}

-- What was packed is read back

-- an outcome that is a call of this kind, line and period
pub record ReadBack (k L p : ℕ) (o : Outcome Call) : Type 0 where
  pub call : Call
  pub read : o ≡ gives call
  pub kind_same : kind_of call ≡ k
  pub line_same : line_of call ≡ L
  pub period_same : period_of call ≡ p

module _ (k L p : ℕ) (b : Bytes) (packed : packing k L p ≡ gives b) where
  order_packed : Packable k L p → order_of b ≡ order_with k L p
  order_packed a =
      let bytes : b ≡ bytes_of (order_with k L p) = cc (packs k L p a) in
      ap order_of bytes ∙ order_of_bytes (order_with k L p) (order_with_below k L p (omega arith) (omega arith) (omega arith))

  pub packed_then_read : ReadBack k L p (reading (order_of b))
  unfolding kind_of line_of period_of
  packed_then_read =
      elim (ℕ_discrete k 0) [
        | yes is_open ↦
            record {
              call = open_line L p;
              read = reads ∙ open_read n (kind_n ∙ is_open) filler_n ∙ ap₂ (λ (l q : ℕ). gives (open_line l q)) line_n period_n;
              kind_same = sym is_open;
              line_same = refl;
              period_same = refl;
            }
        | no not_open ↦
            let is_close : k ≡ 1 = omega (arith, a.kind_small) in
            let period_0 : p ≡ 0 = a.close_plain is_close in
            record {
              call = close_line L;
              read = reads ∙ close_read n (kind_n ∙ is_close) filler_n (period_n ∙ period_0) ∙ ap (λ (l : ℕ). gives (close_line l)) line_n;
              kind_same = sym is_close;
              line_same = refl;
              period_same = sym period_0;
            }
      ]
    where
      a : Packable k L p
      a = packed_is_packable k L p b packed

      n : ℕ
      n = order_with k L p

      kind_below : k < 2 ^ 2
      kind_below = omega (arith, a.kind_small)

      line_below : L < 2 ^ 6
      line_below = omega (arith, a.line_small)

      period_below : p < 2 ^ 12
      period_below = omega (arith, a.period_small)

      reads : reading (order_of b) ≡ reading n
      reads = ap reading (order_packed a)

      kind_n : kind n ≡ k
      kind_n = kind_with k L p kind_below line_below period_below

      line_n : line n ≡ L
      line_n = line_with k L p kind_below line_below period_below

      period_n : period n ≡ p
      period_n = period_with k L p kind_below line_below period_below

      filler_n : filler n ≡ 0
      filler_n = filler_with k L p kind_below line_below period_below

-- What was read packs to the same bytes

module _ (b : Bytes) (bytes : AreBytes b) (c : Call) (read : reading (order_of b) ≡ gives c) where
  pub read_then_packed : packing (kind_of c) (line_of c) (period_of c) ≡ gives b
  unfolding Readable kind_of line_of period_of kind line period
  read_then_packed =
      ⊎_elim
      (λ is_open.
      let call : c ≡ open_line (line n) (period n) = cc (open_read n is_open readable.0) in
      ap (λ (x : Call). packing (kind_of x) (line_of x) (period_of x)) call ∙ packed 0 (sym is_open) (λ z. omega arith) (omega arith))
      (λ w.
      let call : c ≡ close_line (line n) = cc (close_read n w.0 readable.0 w.1) in
      ap (λ (x : Call). packing (kind_of x) (line_of x) (period_of x)) call ∙ ap (packing 1 (line n)) (sym w.1) ∙ packed 1 (sym w.0) (λ z. w.1) (omega arith))
      readable.1
    where
      n : ℕ
      n = order_of b

      readable : Readable n
      readable = read_is_readable n c read

      packed : (k : ℕ) → k ≡ kind n → (k ≡ 1 → period n ≡ 0) → k ≤ 1 → packing k (line n) (period n) ≡ gives b
      packed k same plain small =
          packs k (line n) (period n) record {
            kind_small = small;
            line_small = omega (arith, field_below 6 16 n);
            period_small = omega (arith, field_below 12 4 n);
            close_plain = plain;
          }
          ∙ ap (λ (x : ℕ). gives (bytes_of (order_with x (line n) (period n)))) same
          ∙ ap (λ (x : ℕ). gives (bytes_of x)) (order_with_fields n (order_below b bytes) readable.0)
          ∙ ap gives (bytes_of_order b bytes)

-- The same as the outcome of one call after the other (src/round_trip.rt)

-- what is given or refused is so whatever it would give
given : {A B : Type 0} (o : Option ℕ) (a x : A) (b : B) → gives_unless o a ≡ gives x → gives_unless o b ≡ gives b
unfolding gives_unless
given None a x b e = refl
given (Some n) a x b e = let z : ◌≡◌ {A = ℕ} 0 1 = cc in absurd (omega arith)

refused : {A B : Type 0} (o : Option ℕ) (a : A) (b : B) (n : ℕ) → gives_unless o a ≡ refuses n → gives_unless o b ≡ refuses n
unfolding gives_unless
refused None a b n e = let z : ◌≡◌ {A = ℕ} 0 1 = cc in absurd (omega arith)
refused (Some m) a b n e = let same : m ≡ n = cc in ap refuses same

same_call : (c : Call) → call_of (kind_of c) (line_of c) (period_of c) ≡ c
unfolding call_of kind_of line_of period_of
same_call (open_line L p) = refl
same_call (close_line L) = refl

pub packed_then_read_outcome : (k L p : ℕ) (b : Bytes) → packing k L p ≡ gives b
    → reading (order_of b) ≡ gives_unless (packing_refusal k L p) (call_of k L p)
unfolding packing
packed_then_read_outcome k L p b packed =
    let back = packed_then_read k L p b packed in
    let call : back.call ≡ call_of k L p =
    sym (same_call back.call) ∙ (λ i. call_of (back.kind_same i) (back.line_same i) (back.period_same i)) in
    back.read ∙ ap gives call ∙ sym (given (packing_refusal k L p) (bytes_of (order_with k L p)) b (call_of k L p) packed)

pub packing_refused : (k L p n : ℕ) → packing k L p ≡ refuses n → gives_unless (packing_refusal k L p) (call_of k L p) ≡ refuses n
unfolding packing
packing_refused k L p n e = refused (packing_refusal k L p) (bytes_of (order_with k L p)) (call_of k L p) n e

pub read_then_packed_outcome : (b : Bytes) → AreBytes b → (c : Call) → reading (order_of b) ≡ gives c
    → packing (kind_of c) (line_of c) (period_of c) ≡ gives_unless (reading_refusal (order_of b)) b
unfolding reading
read_then_packed_outcome b bytes c read =
    let n = order_of b in
    read_then_packed b bytes c read ∙ sym (given (reading_refusal n) (call_of (kind n) (line n) (period n)) c b read)

pub reading_refused : (b : Bytes) (m : ℕ) → reading (order_of b) ≡ refuses m → gives_unless (reading_refusal (order_of b)) b ≡ refuses m
unfolding reading
reading_refused b m e =
    let n = order_of b in refused (reading_refusal n) (call_of (kind n) (line n) (period n)) b m e
