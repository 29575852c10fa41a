-- `rivers::units::label_run` and `rivers::units::label_river`, which call each other, meet their contracts.
use Rattle.std.proofs.Common.{◌∙◌, ◌<◌, arith, length, refl}
use Rattle.rivers.proofs.Prefixes.{prefix_more}
use Rattle.rivers.proofs.Labelling.{filled_zero, filled_finished}
use Rattle.rivers.proofs.Progress.{river_unit, progress_none, progress_stem, progress_skip}
use Rattle.rivers.proofs.Progress.{progress_take, progress_room, progress_unit}
use Rattle.rivers.proofs.Progress.{progress_last, progress_last_room, progress_last_unit}
use Rattle.rivers.proofs.Bounds.{measure_digit, measure_length, places_at}
use Rattle.rivers.proofs.units.+label_river_label_run.Goals as goal

pub label_river-label_run-requires : goal.label_river-label_run-requires
label_river-label_run-requires t c =
    let y = c.requires.places in (
      rw (← c.decreases) (measure_length _ (omega arith)),
      (river_unit y.for_areas c.requires.network_of c.args.j c.requires.j_in_bounds, (y, c.requires.prefix)),
    )

pub label_river-returns : goal.label_river-returns
unfolding river_unit
label_river-returns t c =
    λ n p. c.label_run.ensures
    (river_unit c.requires.places.for_areas n c.args.j c.requires.j_in_bounds) p

pub label_run-returns-then-digits-eq0 : goal.label_run-returns-then-digits-eq0
label_run-returns-then-digits-eq0 t c =
    λ u p. filled_zero c.requires.places.for_labels u p _ c.fill.ensures c.if-digits-eq0.true

pub label_run-returns-then-cut : goal.label_run-returns-then-cut
label_run-returns-then-cut t c =
    λ u p. filled_finished c.requires.places.for_labels u p _ c.fill-then-cut.ensures
    ((c.heaviest-cut.ensures u).finishes ∙ c.if-cut.true)

pub label_run-loop-j-init : goal.label_run-loop-j-init
label_run-loop-j-init t c = (
  refl,
  λ u p. progress_none c.requires.places.for_areas u c.if-digits-eq0.false
      ((c.heaviest-cut.ensures u).finishes ∙ c.if-cut.false) c.requires.places.split_most,
)

pub label_run-loop-j-preserved-then-j-s : goal.label_run-loop-j-preserved-then-j-s
label_run-loop-j-preserved-then-j-s t c = (
  c.loop-j.invariant.0,
  λ u p. progress_stem c.requires.places.for_areas u c.loop-j-test.true c.if-j-s.true (c.loop-j.invariant.1 u p),
)

pub label_run-loop-j-preserved-then-key_at-key : goal.label_run-loop-j-preserved-then-key_at-key
label_run-loop-j-preserved-then-key_at-key t c = (
  c.loop-j.invariant.0,
  λ u p. progress_skip c.requires.places.for_areas u (c.heaviest-cut.ensures u) c.loop-j-test.true c.if-j-s.false
      c.key_at.ensures (c.loop-j.invariant.1 u p) c.if-key_at-key.true,
)

-- at a mouth that is taken: the digits of the run before it and of its tributary
pub label_run-with_digit-run-requires-clause-le_digit :
    goal.label_run-with_digit-run-requires-clause-le_digit
label_run-with_digit-run-requires-clause-le_digit t c =
    let u = c.requires.unit_at in
    let now = c.loop-j.invariant.1 u c.requires.prefix in
    let most = progress_room c.requires.places.for_areas u (c.heaviest-cut.ensures u) c.loop-j-test.true
    c.if-j-s.false c.key_at.ensures now c.if-key_at-key.false in
    (omega (arith, now.digit_is), omega (arith, most))

pub label_run-label_run-requires : goal.label_run-label_run-requires
label_run-label_run-requires t c =
    let u = c.requires.unit_at in
    let p = c.requires.prefix in
    let y = c.requires.places in
    let now = c.loop-j.invariant.1 u p in
    let most = progress_room y.for_areas u (c.heaviest-cut.ensures u) c.loop-j-test.true c.if-j-s.false
    c.key_at.ensures now c.if-key_at-key.false in
    let on : c.loop-j.j < length c.args.cell.now = omega (arith, u.before_end, u.end_within) in (
      rw (← c.decreases) (measure_digit _ _ _ _ (omega arith) (omega arith)),
      (
        progress_unit y.for_areas u (c.heaviest-cut.ensures u) c.loop-j-test.true c.if-j-s.false c.key_at.ensures now
            c.if-key_at-key.false,
        (
          places_at c.loop-j.invariant.0 y,
          prefix_more p (omega arith) (omega (arith, now.digit_is)) (omega (arith, most))
              (c.with_digit-run.ensures p.gathered p.one_to_nine p.held),
        ),
      ),
    )

pub label_run-overflow_add-digit : goal.label_run-overflow_add-digit
label_run-overflow_add-digit t c =
    let u = c.requires.unit_at in
    let most = progress_room c.requires.places.for_areas u (c.heaviest-cut.ensures u) c.loop-j-test.true
    c.if-j-s.false c.key_at.ensures (c.loop-j.invariant.1 u c.requires.prefix) c.if-key_at-key.false in
    omega (arith, most)

pub label_run-with_digit-tributary-requires-clause-le_digit :
    goal.label_run-with_digit-tributary-requires-clause-le_digit
label_run-with_digit-tributary-requires-clause-le_digit t c =
    let u = c.requires.unit_at in
    let most = progress_room c.requires.places.for_areas u (c.heaviest-cut.ensures u) c.loop-j-test.true
    c.if-j-s.false c.key_at.ensures (c.loop-j.invariant.1 u c.requires.prefix) c.if-key_at-key.false in
    (omega arith, omega (arith, most))

pub label_run-label_river-requires : goal.label_run-label_river-requires
label_run-label_river-requires t c =
    let u = c.requires.unit_at in
    let p = c.requires.prefix in
    let y = c.requires.places in
    let most = progress_room y.for_areas u (c.heaviest-cut.ensures u) c.loop-j-test.true c.if-j-s.false
    c.key_at.ensures (c.loop-j.invariant.1 u p) c.if-key_at-key.false in
    let on : c.loop-j.j < length c.args.cell.now = omega (arith, u.before_end, u.end_within) in
    let within = y.for_areas.within c.loop-j.j on in (
      rw (← c.decreases) (measure_digit _ _ _ _ (omega arith) (omega (arith, within))),
      (
        on,
        (
          u.of,
          (
            places_at (c.label_run.auto.labels ∙ c.loop-j.invariant.0) y,
            prefix_more p (omega arith) (omega arith) (omega (arith, most))
                (c.with_digit-tributary.ensures p.gathered p.one_to_nine p.held),
          ),
        ),
      ),
    )

pub label_run-overflow_add-digit-else-key_at-key :
    goal.label_run-overflow_add-digit-else-key_at-key
label_run-overflow_add-digit-else-key_at-key t c =
    let u = c.requires.unit_at in
    let most = progress_room c.requires.places.for_areas u (c.heaviest-cut.ensures u) c.loop-j-test.true
    c.if-j-s.false c.key_at.ensures (c.loop-j.invariant.1 u c.requires.prefix) c.if-key_at-key.false in
    omega (arith, most)

pub label_run-loop-j-preserved : goal.label_run-loop-j-preserved
unfolding prefix_more
label_run-loop-j-preserved t c =
    let y = c.requires.places.for_areas in (
      c.label_river.auto.labels ∙ c.label_run.auto.labels ∙ c.loop-j.invariant.0,
      λ u p.
          let by = c.heaviest-cut.ensures u in
          let now = c.loop-j.invariant.1 u p in
          let most = progress_room y u by c.loop-j-test.true c.if-j-s.false c.key_at.ensures now c.if-key_at-key.false in
          progress_take y u by c.loop-j-test.true c.if-j-s.false c.key_at.ensures now c.if-key_at-key.false
          (λ w. c.label_run.ensures w
          (prefix_more p (omega arith) (omega (arith, now.digit_is)) (omega (arith, most))
          (c.with_digit-run.ensures p.gathered p.one_to_nine p.held)))
          (λ n. c.label_river.ensures n
          (prefix_more p (omega arith) (omega arith) (omega (arith, most))
          (c.with_digit-tributary.ensures p.gathered p.one_to_nine p.held))),
    )

-- after the last mouth that is taken
pub label_run-with_digit-run-requires-2-clause-le_digit :
    goal.label_run-with_digit-run-requires-2-clause-le_digit
label_run-with_digit-run-requires-2-clause-le_digit t c =
    let u = c.requires.unit_at in
    let now = c.loop-j.invariant.1 u c.requires.prefix in
    (omega (arith, now.digit_is), progress_last_room c.requires.places.for_areas u c.loop-j-test.false now)

pub label_run-label_run-requires-2 : goal.label_run-label_run-requires-2
label_run-label_run-requires-2 t c =
    let u = c.requires.unit_at in
    let p = c.requires.prefix in
    let y = c.requires.places in
    let now = c.loop-j.invariant.1 u p in (
      rw (← c.decreases) (measure_digit _ _ _ _ (omega arith) (omega arith)),
      (
        progress_last_unit y.for_areas u c.loop-j-test.false now,
        (
          places_at c.loop-j.invariant.0 y,
          prefix_more p (omega arith) (omega (arith, now.digit_is))
              (progress_last_room y.for_areas u c.loop-j-test.false now)
              (c.with_digit-run-2.ensures p.gathered p.one_to_nine p.held),
        ),
      ),
    )

pub label_run-returns : goal.label_run-returns
unfolding prefix_more
label_run-returns t c =
    let y = c.requires.places.for_areas in
    λ u p.
    let now = c.loop-j.invariant.1 u p in
    progress_last y u c.loop-j-test.false now
    (λ w. c.label_run-2.ensures w
    (prefix_more p (omega arith) (omega (arith, now.digit_is)) (progress_last_room y u c.loop-j-test.false now)
    (c.with_digit-run-2.ensures p.gathered p.one_to_nine p.held)))
