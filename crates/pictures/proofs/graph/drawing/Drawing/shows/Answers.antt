use Rattle.std.proofs.Common.{refl}
use Rattle.pictures.proofs.graph.Shown.{shown_by_place, nowhere_shown}
use Rattle.pictures.proofs.graph.drawing.Drawing.shows.Goals as goal

pub returns-in-Some : goal.returns-in-Some
returns-in-Some c = shown_by_place c.args.self.now.search.now.found c.args.self.now.most c.args.id c.in-Some.place c.place.ensures.once c.in-Some.ensures.some

pub returns-in-None : goal.returns-in-None
returns-in-None c = nowhere_shown c.args.self.now.search.now.found c.args.self.now.most c.args.id (c.in-None.ensures.none refl)
