-- What a row of the table is searched for.
use Rattle.std.specs.Prelude.{Bool, Option}
use Rattle.session.specs.Rules.{is_free, is_of, is_asked}
use Rattle.session.specs.Sessions.{Live}
use Rattle.session.specs.declared.table.Wanted.{Wanted}
use Rattle.session.specs.declared.table.Wanted.TheVariants.{Free, Named, Asked}

abbrev pub is_wanted : Wanted → Option Live → Bool
is_wanted Free r = is_free r
is_wanted (Named serial path) r = is_of serial path.now r
is_wanted (Asked serial) r = is_asked serial r
