-- Stories: going on by one call, what came up to a call, and the run without the acknowledgements.
use Rattle.std.proofs.Common.{List, [], ◌∷◌, ◌++◌, refl, subst}
use Rattle.session.specs.Sessions.{World}
use Rattle.session.specs.declared.records.Settings.{Settings}
use Rattle.history.specs.Law.{Runs}
use Rattle.law.specs.Heard.{Heard, events, Said, Story}

pub story-nil : (sets : Settings) (w : World) → Story sets w [] w
story-nil sets w = refl

-- a story goes on by one call
pub story-push : (sets : Settings) (hs : List Heard) (w u v : World) (h : Heard) → Story sets w hs u → Said sets u h v → Story sets w (hs ++ h ∷ []) v
story-push sets [] w u v h r s = let P : World → Type 0 = λ z. Said sets z h v in (v, subst P r s, refl)
story-push sets (g ∷ hs) w u v h r s = (r.0, r.1, story-push sets hs r.0 u v h r.2 s)

-- the worlds before and after a call of a story
pub story-at : (sets : Settings) (before : List Heard) (w v : World) (h : Heard) (after : List Heard) → Story sets w (before ++ h ∷ after) v → (a : World) × (b : World) × Story sets w before a × Said sets a h b
story-at sets [] w v h after r = (w, r.0, refl, r.1)
story-at sets (g ∷ before) w v h after r =
    let k = story-at sets before r.0 v h after r.2 in
    (k.0, k.1, (r.0, r.1, k.2), k.3)

pub story-runs : (sets : Settings) (w : World) (hs : List Heard) (v : World) → Story sets w hs v → Runs sets w (events hs) v
story-runs sets w [] v r = r
story-runs sets w (h ∷ hs) v r = (r.0, r.1.0, story-runs sets r.0 hs v r.2)
