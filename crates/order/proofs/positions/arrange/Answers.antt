use Rattle.order.proofs.Queued.{apart}
use Rattle.order.proofs.Arranging.{arranged, other_places}
use Rattle.order.proofs.positions.arrange.Goals as goal

pub enter_all-requires : goal.enter_all-requires
enter_all-requires c =
    apart c.requires c.place_all.auto.work
    c.place_all.ensures

pub returns : goal.returns
returns c =
    let w = c.requires in record {
      order = arranged w c.place_all.auto.work c.place_all.ensures c.enter_all.auto.work c.enter_all.ensures;
      places = other_places w c.place_all.auto.work c.place_all.ensures c.enter_all.auto.work c.enter_all.ensures;
    }
