-- `label_in_order` meets its contract: each step hands the next what it asks.
use Rattle.labelling.proofs.label_in_order.Goals as goal

pub write_if_accepted-requires-clause-inspected : goal.write_if_accepted-requires-clause-inspected
write_if_accepted-requires-clause-inspected c =
    (c.inspect_sheet-found.ensures c.args.sizes.depth c.args.sizes.least c.args.sizes.split).passed
