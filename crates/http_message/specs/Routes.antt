-- The resources of a book, by their paths.
use Rattle.std.specs.Prelude.{ℕ, Bool, false, ◌&&◌, not, List, [], ◌∷◌, ◌++◌, codes, bytes_eq}
use Rattle.std.specs.Prelude.{if◌then◌else◌, ◌==◌, Option, Some, None, option_map}
use Rattle.std.specs.List.{list_any}
use Rattle.matchit.specs.declared.params.Params.{Params}
use Rattle.matchit.specs.Params as matched
use Rattle.matchit.specs.Rows.{RowsOf}
use Rattle.matchit.specs.Router.{RouteOf}
use Rattle.request.specs.declared.subject.Listed.TheVariants.{All, Open}
use Rattle.request.specs.declared.subject.Subject.{Subject}
use Rattle.request.specs.declared.subject.Subject.TheVariants as subject
use Rattle.http_message.specs.declared.routes.Resource.{Resource}
use Rattle.http_message.specs.declared.routes.Resource.TheVariants as resource
use Rattle.http_message.specs.declared.routes.Route.{Route}
use Rattle.http_message.specs.declared.routes.Route.TheVariants.{Requests, Checks, Import, Crew}
use Rattle.http_message.specs.declared.routes.Route.TheVariants.{Pairing, Exceedances, Limits}
use Rattle.http_message.specs.declared.routes.Route.TheVariants.{LimitsWith, Members, Pairings}
use Rattle.http_message.specs.declared.routes.Route.TheVariants.{OpenPairings, Desk, Lines}
use Rattle.http_message.specs.declared.routes.Route.TheVariants.{LineChecks, Request, Board, Count}

-- what a path names: the page of the desk; commands, or lines of commands, to be done or only to be
-- checked; how many requests are kept; an import by its number; a request by its number; the board
-- by its first and its last day; or a report by its subject
pub data PathResource : Type 0 where
  desk requests checks lines line_checks count : PathResource
  import request : List ℕ → PathResource
  board : List ℕ → List ℕ → PathResource
  report : Subject (List ℕ) (List ℕ) → PathResource

-- whether a text is an id in a path: one or more bytes without a slash
abbrev pub is_path_id : List ℕ → Bool
is_path_id [] = false
is_path_id (b ∷ id) = not (list_any (λ b. b == 47) (b ∷ id))

-- the id that follows these bytes in a path
abbrev pub id_after : List ℕ → List ℕ → Option (List ℕ)
id_after [] path = if is_path_id path then Some path else None
id_after (a ∷ front) [] = None
id_after (a ∷ front) (b ∷ path) = if a == b then id_after front path else None

-- what stands before the first slash of a text, and what stands after that slash
abbrev pub at_slash : List ℕ → Option (List ℕ × List ℕ)
at_slash [] = None
at_slash (b ∷ text) =
    if b == 47 then Some ([], text)
    else option_map (λ parts. (b ∷ parts.0, parts.1)) (at_slash text)

-- these two texts, if both are ids
abbrev pub both_ids : Option (List ℕ × List ℕ) → Option (List ℕ × List ℕ)
both_ids None = None
both_ids (Some (a, b)) = if is_path_id a && is_path_id b then Some (a, b) else None

-- the two ids, with a slash between the two, that follow these bytes in a path
abbrev pub ids_after : List ℕ → List ℕ → Option (List ℕ × List ℕ)
ids_after [] path = both_ids (at_slash path)
ids_after (a ∷ front) [] = None
ids_after (a ∷ front) (b ∷ path) = if a == b then ids_after front path else None

-- the first of two values, if it is there, else the other
abbrev pub first_or_other : {A : Type 0} → Option A → Option A → Option A
first_or_other (Some a) other = Some a
first_or_other None other = other

-- this place, if the whole path is these bytes
abbrev pub exactly : List ℕ → PathResource → List ℕ → Option PathResource
exactly name place path = if bytes_eq name path then Some place else None

-- what a path names by the table of paths
abbrev pub place_of_path : List ℕ → Option PathResource
place_of_path path =
    first_or_other (exactly (codes "/") desk path)
    (first_or_other (exactly (codes "/requests") requests path)
    (first_or_other (exactly (codes "/checks") checks path)
    (first_or_other (option_map request (id_after (codes "/requests/") path))
    (first_or_other (exactly (codes "/lines") lines path)
    (first_or_other (exactly (codes "/lines/checks") line_checks path)
    (first_or_other (exactly (codes "/count") count path)
    (first_or_other (option_map (λ days. board days.0 days.1) (ids_after (codes "/board/") path))
    (first_or_other (option_map import (id_after (codes "/imports/") path))
    (first_or_other (option_map (λ id. report (subject.Crew id)) (id_after (codes "/crew/") path))
    (first_or_other (option_map (λ id. report (subject.Pairing id))
    (id_after (codes "/pairings/") path))
    (first_or_other (exactly (codes "/exceedances") (report subject.Exceedances) path)
    (first_or_other (option_map (λ id. report (subject.Limits id None))
    (id_after (codes "/reports/limits/") path))
    (first_or_other (option_map (λ ids. report (subject.Limits ids.0 (Some ids.1)))
    (ids_after (codes "/reports/limits/") path))
    (first_or_other (exactly (codes "/reports/members") (report subject.Members) path)
    (first_or_other (exactly (codes "/reports/pairings") (report (subject.Pairings All)) path)
    (exactly (codes "/reports/open") (report (subject.Pairings Open)) path))))))))))))))))

-- a resource as contracts see it: the place that a path names
abbrev pub path_resource : Resource → PathResource
path_resource resource.Desk = desk
path_resource resource.Requests = requests
path_resource resource.Checks = checks
path_resource resource.Lines = lines
path_resource resource.LineChecks = line_checks
path_resource (resource.Import number) = import number.now
path_resource (resource.Crew id) = report (subject.Crew id.now)
path_resource (resource.Pairing id) = report (subject.Pairing id.now)
path_resource resource.Exceedances = report subject.Exceedances
path_resource (resource.Limits id) = report (subject.Limits id.now None)
path_resource (resource.LimitsWith id other) = report (subject.Limits id.now (Some other.now))
path_resource resource.Members = report subject.Members
path_resource resource.Pairings = report (subject.Pairings All)
path_resource resource.OpenPairings = report (subject.Pairings Open)
path_resource (resource.Board first last) = board first.now last.now
path_resource (resource.Request number) = request number.now
path_resource resource.Count = count

-- ---- What the router works with

-- the parameters of a route that a path matched: each name, with what it took of the path
abbrev pub taken : Params → List (List ℕ × List ℕ)
taken params = matched.walk params.pattern.now params.text.now params.path.now params.names.now 0 0

-- the limits of a member with a pairing, if both ids were taken
abbrev pub limits_with : Option (List ℕ) → Option (List ℕ) → Option PathResource
limits_with None other = None
limits_with (Some id) other = option_map (λ other. report (subject.Limits id (Some other))) other

-- the board of two days, if both were taken
abbrev pub board_of : Option (List ℕ) → Option (List ℕ) → Option PathResource
board_of None other = None
board_of (Some first) other = option_map (λ last. board first last) other

-- what a route leads to, by what its parameters took
abbrev pub place_by : Route → List (List ℕ × List ℕ) → Option PathResource
place_by Desk taken = Some desk
place_by Requests taken = Some requests
place_by Checks taken = Some checks
place_by Lines taken = Some lines
place_by LineChecks taken = Some line_checks
place_by Count taken = Some count
place_by Import taken = option_map import (matched.named (codes "number") taken)
place_by Request taken = option_map request (matched.named (codes "number") taken)
place_by Board taken =
    board_of (matched.named (codes "from") taken) (matched.named (codes "to") taken)
place_by Crew taken = option_map (λ id. report (subject.Crew id)) (matched.named (codes "id") taken)
place_by Pairing taken =
    option_map (λ id. report (subject.Pairing id)) (matched.named (codes "id") taken)
place_by Exceedances taken = Some (report subject.Exceedances)
place_by Limits taken =
    option_map (λ id. report (subject.Limits id None)) (matched.named (codes "crew") taken)
place_by LimitsWith taken =
    limits_with (matched.named (codes "crew") taken) (matched.named (codes "pairing") taken)
place_by Members taken = Some (report subject.Members)
place_by Pairings taken = Some (report (subject.Pairings All))
place_by OpenPairings taken = Some (report (subject.Pairings Open))

-- a row of the router's table: a pattern, its text, where the names stand in the text, and the
-- route
abbrev pub row : List ℕ → List ℕ → List (ℕ × ℕ) → Route → List ℕ × RouteOf Route
row pattern text names route =
    (pattern, record { pattern = pattern; text = text; names = names; value = route })

-- the rows of the router, in the order in which it keeps them
abbrev pub route_table : RowsOf (RouteOf Route)
route_table =
    row (codes "/board/" ++ 256 ∷ 47 ∷ 256 ∷ []) (codes "/board/{from}/{to}")
    ((8, 12) ∷ (15, 17) ∷ []) Board
    ∷ row (codes "/checks") (codes "/checks") [] Checks
    ∷ row (codes "/count") (codes "/count") [] Count
    ∷ row (codes "/crew/" ++ 256 ∷ []) (codes "/crew/{id}") ((7, 9) ∷ []) Crew
    ∷ row (codes "/exceedances") (codes "/exceedances") [] Exceedances
    ∷ row (codes "/imports/" ++ 256 ∷ []) (codes "/imports/{number}") ((10, 16) ∷ []) Import
    ∷ row (codes "/lines/checks") (codes "/lines/checks") [] LineChecks
    ∷ row (codes "/lines") (codes "/lines") [] Lines
    ∷ row (codes "/pairings/" ++ 256 ∷ []) (codes "/pairings/{id}") ((11, 13) ∷ []) Pairing
    ∷ row (codes "/reports/limits/" ++ 256 ∷ 47 ∷ 256 ∷ [])
    (codes "/reports/limits/{crew}/{pairing}") ((17, 21) ∷ (24, 31) ∷ []) LimitsWith
    ∷ row (codes "/reports/limits/" ++ 256 ∷ []) (codes "/reports/limits/{crew}")
    ((17, 21) ∷ []) Limits
    ∷ row (codes "/reports/members") (codes "/reports/members") [] Members
    ∷ row (codes "/reports/open") (codes "/reports/open") [] OpenPairings
    ∷ row (codes "/reports/pairings") (codes "/reports/pairings") [] Pairings
    ∷ row (codes "/requests/" ++ 256 ∷ []) (codes "/requests/{number}") ((11, 17) ∷ []) Request
    ∷ row (codes "/requests") (codes "/requests") [] Requests
    ∷ row (codes "/") (codes "/") [] Desk
    ∷ []
