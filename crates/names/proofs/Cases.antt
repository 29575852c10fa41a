-- The definitions tried by computation, on names lines of document 01's sample and on lines that break its rules.
use Rattle.std.proofs.Common.{Some, None, [], ◌∷◌}
use mathlib.Core.Path.{◌≡◌, refl}
use Rattle.decimal.specs.Ascii.{ascii}
use Rattle.lines.specs.declared.columns.Column.{Column}
use Rattle.lines.specs.declared.columns.Column.TheVariants.{Rows, Cols, Depth, Least, Split, Row, Col, Dir, Weight}
use Rattle.lines.specs.declared.columns.Columns.{Columns}
use Rattle.names.specs.Columns.{size_columns, weight_columns, cell_columns}
use Rattle.names.specs.Names.{names_line, size_names_line}

abbrev five : Column → Column → Column → Column → Column → Columns
five a b c d e = record { places = Some a ∷ Some b ∷ Some c ∷ Some d ∷ Some e ∷ [] }

abbrev three : Column → Column → Column → Columns
three a b c = record { places = Some a ∷ Some b ∷ Some c ∷ None ∷ None ∷ [] }

pub size_names : names_line size_columns (ascii "rows,cols,depth") ≡ Some (three Rows Cols Depth)
unfolding names_line
size_names = refl

pub size_names_turned : names_line size_columns (ascii "depth,rows,cols") ≡ Some (three Depth Rows Cols)
unfolding names_line
size_names_turned = refl

pub size_names_back : names_line size_columns (ascii "depth,cols,rows") ≡ Some (three Depth Cols Rows)
unfolding names_line
size_names_back = refl

pub cell_names_lem : names_line cell_columns (ascii "row,col,dir") ≡ Some (three Row Col Dir)
unfolding names_line
cell_names_lem = refl

pub cell_names_turned : names_line cell_columns (ascii "dir,row,col") ≡ Some (three Dir Row Col)
unfolding names_line
cell_names_turned = refl

pub name_twice : names_line size_columns (ascii "rows,cols,rows") ≡ None
unfolding names_line
name_twice = refl

pub name_missing : names_line size_columns (ascii "rows,cols") ≡ None
unfolding names_line
name_missing = refl

pub name_more : names_line size_columns (ascii "rows,cols,depth,rows") ≡ None
unfolding names_line
name_more = refl

pub name_unknown : names_line size_columns (ascii "rows,cols,deep") ≡ None
unfolding names_line
name_unknown = refl

pub names_of_cells : names_line size_columns (ascii "row,col,dir") ≡ None
unfolding names_line
names_of_cells = refl

pub names_with_blank : names_line size_columns (ascii "rows, cols,depth") ≡ None
unfolding names_line
names_with_blank = refl

pub names_with_line_feed : names_line size_columns (ascii "rows,cols,depth\n") ≡ None
unfolding names_line
names_with_line_feed = refl

pub names_with_comma_after : names_line size_columns (ascii "rows,cols,depth,") ≡ None
unfolding names_line
names_with_comma_after = refl

pub names_empty : names_line size_columns (ascii "") ≡ None
unfolding names_line
names_empty = refl

-- The name of the weights, alone; every other line is bad (proofs/WeightName.antt).
pub weight_name : names_line weight_columns (ascii "weight")
    ≡ Some (record { places = Some Weight ∷ None ∷ None ∷ None ∷ None ∷ [] })
unfolding names_line
weight_name = refl

pub weight_twice : names_line weight_columns (ascii "weight,weight") ≡ None
unfolding names_line
weight_twice = refl

pub weight_comma_after : names_line weight_columns (ascii "weight,") ≡ None
unfolding names_line
weight_comma_after = refl

pub weight_comma_before : names_line weight_columns (ascii ",weight") ≡ None
unfolding names_line
weight_comma_before = refl

pub weight_blank : names_line weight_columns (ascii " weight") ≡ None
unfolding names_line
weight_blank = refl

pub weight_capital : names_line weight_columns (ascii "Weight") ≡ None
unfolding names_line
weight_capital = refl

pub weight_more : names_line weight_columns (ascii "weights") ≡ None
unfolding names_line
weight_more = refl

pub weight_less : names_line weight_columns (ascii "weigh") ≡ None
unfolding names_line
weight_less = refl

pub weight_among_sizes : names_line weight_columns (ascii "rows,cols,weight") ≡ None
unfolding names_line
weight_among_sizes = refl

pub weight_among_cells : names_line weight_columns (ascii "row,col,weight") ≡ None
unfolding names_line
weight_among_cells = refl

pub weight_of_cells : names_line weight_columns (ascii "row,col,dir") ≡ None
unfolding names_line
weight_of_cells = refl

pub weight_empty : names_line weight_columns (ascii "") ≡ None
unfolding names_line
weight_empty = refl

pub weight_thrice : names_line weight_columns (ascii "weight,weight,weight") ≡ None
unfolding names_line
weight_thrice = refl

pub sizes_and_weight : names_line size_columns (ascii "rows,cols,weight") ≡ None
unfolding names_line
sizes_and_weight = refl

pub cells_and_weight : names_line cell_columns (ascii "row,col,weight") ≡ None
unfolding names_line
cells_and_weight = refl

pub weight_for_sizes : names_line size_columns (ascii "weight") ≡ None
unfolding names_line
weight_for_sizes = refl

pub weight_for_cells : names_line cell_columns (ascii "weight") ≡ None
unfolding names_line
weight_for_cells = refl

-- The sizes' names with least and split: both or neither, in any order.
pub names_without_split : size_names_line (ascii "rows,cols,depth") ≡ Some (three Rows Cols Depth)
unfolding size_names_line
names_without_split = refl

pub names_with_split : size_names_line (ascii "rows,cols,depth,least,split") ≡ Some (five Rows Cols Depth Least Split)
unfolding size_names_line
names_with_split = refl

pub names_split_first : size_names_line (ascii "split,depth,least,cols,rows") ≡ Some (five Split Depth Least Cols Rows)
unfolding size_names_line
names_split_first = refl

pub names_between : size_names_line (ascii "least,rows,split,cols,depth") ≡ Some (five Least Rows Split Cols Depth)
unfolding size_names_line
names_between = refl

pub least_alone : size_names_line (ascii "rows,cols,depth,least") ≡ None
unfolding size_names_line
least_alone = refl

pub split_alone : size_names_line (ascii "split,rows,cols,depth") ≡ None
unfolding size_names_line
split_alone = refl

pub least_twice : size_names_line (ascii "rows,cols,depth,least,least") ≡ None
unfolding size_names_line
least_twice = refl

pub depth_missing : size_names_line (ascii "rows,cols,least,split") ≡ None
unfolding size_names_line
depth_missing = refl

pub least_for_depth : size_names_line (ascii "rows,cols,least") ≡ None
unfolding size_names_line
least_for_depth = refl

pub six_names : size_names_line (ascii "rows,cols,depth,least,split,rows") ≡ None
unfolding size_names_line
six_names = refl

pub least_and_split_alone : size_names_line (ascii "least,split") ≡ None
unfolding size_names_line
least_and_split_alone = refl

pub split_with_blank : size_names_line (ascii "rows,cols,depth,least, split") ≡ None
unfolding size_names_line
split_with_blank = refl

pub least_and_weight : size_names_line (ascii "rows,cols,depth,least,weight") ≡ None
unfolding size_names_line
least_and_weight = refl

pub least_of_cells : size_names_line (ascii "row,col,dir,least,split") ≡ None
unfolding size_names_line
least_of_cells = refl

pub cells_with_least : names_line cell_columns (ascii "row,col,dir,least,split") ≡ None
unfolding names_line
cells_with_least = refl

pub weight_with_least : names_line weight_columns (ascii "weight,least,split") ≡ None
unfolding names_line
weight_with_least = refl
