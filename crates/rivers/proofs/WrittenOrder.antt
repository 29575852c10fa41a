-- The law of the order of labels for labels as they are written, as records.
use mathlib.Core.Path.{◌≡◌, sym, ap, ◌∙◌}
use mathlib.Core.List.{List}
use Prim.Native.Nat.{ℕ, ◌+◌, ◌≤◌, ◌<◌}
use native.Mathlib.Omega.{arith}
use lib.ListN.{length, get_or}
use Rattle.sheet.specs.Water.{Passes}
use Rattle.sheet.specs.River.{river}
use Rattle.sheet.specs.Record.{Digits, digits_none, digits_cons, record_of, digits_of, label_places}
use Rattle.sheet.specs.Label.{holds, label}
use Rattle.sheet.proofs.Records.{digits_record}
use Rattle.claims.specs.Demand.{Shares, digits_at}
use Rattle.claims.proofs.Lawful.{in_test}
use Rattle.claims.proofs.Parts.{test_true}
use Rattle.claims.proofs.Rivers.{river_headed, river_covers}
use Rattle.claims.proofs.Mouths.{label_at_most, label_range}
use Rattle.claims.proofs.Units.{digits_in, drains_map}
use Rattle.rivers.specs.Labelled.{cells_labelled}
use Rattle.rivers.specs.UnitAt.{NetworkOf, Places}
use Rattle.rivers.specs.LabelOrder.{InLabelOrder}
use Rattle.rivers.proofs.Relabelled.{labelled_at}
use Rattle.rivers.proofs.LabelOrder.{river_in_order}
use Rattle.sheet.specs.Answer.{Next}

-- the same cells and labels, given in another way
module _ {inside within : ℕ → Type 0} {digits other : ℕ → List ℕ} (to : (c : ℕ) → inside c → within c)
    (from : (c : ℕ) → within c → inside c) (same : (c : ℕ) → inside c → digits c ≡ other c) where
  shares_same : {c x : ℕ} → inside c → Shares inside digits (digits c) x → Shares within other (other c) x
  shares_same {c} {x} h s =
      let i = s.is_inside_lem in
      record { is_inside_lem = to x i; begins = rw (← same c h, ← same x i) s.begins }

  shares_back : {c x : ℕ} → inside c → Shares within other (other c) x → Shares inside digits (digits c) x
  shares_back {c} {x} h s =
      let i = from x s.is_inside_lem in
      record { is_inside_lem = i; begins = rw (same c h, same x i) s.begins }

  pub same_in_order : {next : ℕ → Next} {cell : List ℕ} {lo hi : ℕ} → InLabelOrder next inside digits cell lo hi
      → InLabelOrder next within other cell lo hi
  same_in_order {cell = cell} r = record {
    are_inside = λ i a b. to (get_or cell i 0) (r.are_inside i a b);
    all_stand = λ c h. r.all_stand c (from c h);
    once = r.once;
    never_fall = λ i j a o b.
        let first = same (get_or cell i 0) (r.are_inside i a (omega arith)) in
        let last = same (get_or cell j 0) (r.are_inside j (omega arith) b) in
        rw (← first, ← last) (r.never_fall i j a o b);
    side_by_side = λ i k j a o p b e.
        let first = same (get_or cell i 0) (r.are_inside i a (omega arith)) in
        let last = same (get_or cell j 0) (r.are_inside j (omega arith) b) in
        let between = same (get_or cell k 0) (r.are_inside k (omega arith) (omega arith)) in
        sym between ∙ r.side_by_side i k j a o p b (first ∙ e ∙ sym last) ∙ first;
    first_is_outlet = λ i a b f.
        let h = r.are_inside i a b in
        let d = r.first_is_outlet i a b
        (λ k c e q.
        let before = same (get_or cell k 0) (r.are_inside k c (omega arith)) in
        f k c e (sym before ∙ q ∙ same (get_or cell i 0) h)) in
        record {
          among = shares_same h d.among;
          drains = λ x s. drains_map (λ y t. shares_same h t) (d.drains x (shares_back h s));
        };
  }

digits_most : {most more : ℕ} {x : List ℕ} → most ≤ more → Digits most x → Digits more x
digits_most h digits_none = digits_none
digits_most h (digits_cons low high d) = digits_cons low (omega arith) (digits_most h d)

-- the labels of the river whose mouth stands at position m, written for its cells
module _ {cell size area : List ℕ} {areas split least : ℕ} (old : List ℕ) (depth m : ℕ)
    (n : NetworkOf cell size area split least)
    (places : Places cell size areas (label_places (length old)) split) (depth_most : depth ≤ 36)
    (on : m < length cell) where
  abbrev labelled : List ℕ
  labelled =
      cells_labelled (holds n.network (river n.network (get_or cell m 0)))
      (λ c. record_of (label n.network depth (river n.network (get_or cell m 0)) c)) old

  back : (c : ℕ) → Passes n.network.next c (get_or cell m 0)
      → digits_in n.network (get_or cell m 0) depth c ≡ digits_at labelled c
  back c h =
      let i = river_covers n.lawful (get_or cell m 0) c h in
      let at = n.laid_out.covering c m on h in
      let within = places.for_labels.within m on in
      let room : c < label_places (length old) = rw at.3 at (places.for_labels.on at.0 (omega (arith, at.2))) in
      let headed = river_headed n.lawful (get_or cell m 0) in
      let range = label_range n.lawful depth (river n.network (get_or cell m 0)) c headed i in
      let nine = digits_most {more = 9} (omega (arith, places.split_most, n.laid_out.split_is)) range in
      let short = label_at_most n.network depth (river n.network (get_or cell m 0)) c in
      let held = test_true (in_test n.lawful (river n.network (get_or cell m 0)) c) i in
      sym (ap digits_of (labelled_at _ _ old c room ∙ rw held) ∙ digits_record _ nine (omega arith))

  pub written_in_order : {labels : List ℕ} → labels ≡ labelled
      → InLabelOrder n.network.next (λ c. Passes n.network.next c (get_or cell m 0)) (digits_at labels)
      cell m (m + get_or size m 0)
  written_in_order e =
      rw e (same_in_order (λ c h. h) (λ c h. h) back
      (river_in_order places.for_labels n.lawful n.laid_out depth m on))
