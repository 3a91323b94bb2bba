-- The requests of a laptop, as text. Assumes nothing. Each line is given what follows it.
use Rattle.std.specs.Prelude.{ℕ, List, [], ◌++◌, codes}

abbrev pub line_of : List ℕ → List ℕ → List ℕ
line_of value rest = value ++ (codes "\r\n" ++ rest)

-- the line of a request for a path, and the line of its kind
abbrev pub request : List ℕ → List ℕ → List ℕ → List ℕ
request path kind rest = codes "BITS_POST " ++ (path ++ (codes " HTTP/1.1\r\nBITS-Packet-Type: " ++ line_of kind rest))

-- no body is announced
abbrev pub bodiless : List ℕ → List ℕ
bodiless rest = line_of (codes "Content-Length: 0") rest

-- the fields are whole lines
abbrev pub ping_text : List ℕ → List ℕ → List ℕ
ping_text path fields = request path (codes "PING") (bodiless (fields ++ line_of [] []))

abbrev pub create_text : List ℕ → List ℕ
create_text path = request path (codes "CREATE-SESSION") (line_of (codes "BITS-Supported-Protocols: {7df0354d-249b-430f-820d-3d2a9bef4931}") (bodiless (line_of [] [])))

abbrev pub naming : List ℕ → List ℕ → List ℕ
naming id rest = codes "BITS-Session-Id: " ++ line_of id rest

-- a request of a kind that names its session and has no body
abbrev pub short_text : List ℕ → List ℕ → List ℕ → List ℕ
short_text kind path id = request path kind (naming id (bodiless (line_of [] [])))

abbrev pub fragment_text : List ℕ → List ℕ → List ℕ → List ℕ → List ℕ → List ℕ
fragment_text path id range announced body = request path (codes "FRAGMENT") (naming id (codes "Content-Range: bytes " ++ line_of range (codes "Content-Length: " ++ line_of announced (line_of [] body))))
