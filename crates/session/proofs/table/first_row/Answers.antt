use Rattle.std.proofs.Common.{◌∙◌, rules, tests}
use Rattle.std.proofs.lemmas.Iterator.{YieldsList-from_slice}
use Rattle.std.proofs.lemmas.Iterator.Search.{position_from_yields_List}
use Rattle.session.specs.Sessions.{row_of}
use Rattle.session.specs.Wanted.{is_wanted}
use Rattle.session.proofs.Rows.{index_is_position}
use Rattle.session.proofs.table.first_row.Goals as goal

pub returns-clause-value : goal.returns-clause-value
returns-clause-value c =
    let found = position_from_yields_List (λ r. is_wanted c.args.wanted (row_of r)) _ _ c.position.result c.position.ensures.ran (YieldsList-from_slice c.args.rows.now (cc)) (λ x b q k. search (rules, tests)) in
    found ∙ index_is_position row_of (is_wanted c.args.wanted) c.args.rows.now
