-- What an `iXML` chunk says (iXML specification 2.10): texts of a document whose root is BWFXML.
use Rattle.std.specs.Prelude.{ℕ, List, [], ◌∷◌, ◌++◌, codes, Option, Some, None, if◌then◌else◌}
use Rattle.std.specs.Str.{bytes_eq}
use Rattle.bw_contents.specs.Markup.{number_of_digits}
use Rattle.bw_contents.specs.Texts.{Said, one_said}
use Rattle.bw_contents.specs.declared.content.Kind.{Kind}
use Rattle.bw_contents.specs.declared.content.Kind.TheVariants.{Project, Scene, Take, Tape, IxmlNote}
use Rattle.bw_contents.specs.declared.content.Kind.TheVariants.{Track, Function, Channel}

-- what a track of TRACK_LIST has said so far
pub record TrackTexts : Type 0 where
  pub channel : List ℕ
  pub interleave : List ℕ
  pub name : List ℕ
  pub function : List ℕ

-- nothing
abbrev pub no_track : TrackTexts
no_track = record { channel = []; interleave = []; name = []; function = [] }

-- the text, as this, unless it is empty
abbrev pub text_said : Kind → List ℕ → List Said
text_said kind [] = []
text_said kind (c ∷ cs) = one_said kind (c ∷ cs)

-- the first number, or else the second one
abbrev pub first_number : Option ℕ → Option ℕ → Option ℕ
first_number None other = other
first_number (Some n) other = Some n

-- the number of a track: where it is in the file's frames, or else its recorder's channel
abbrev pub track_index : TrackTexts → Option ℕ
track_index t =
    first_number (number_of_digits 10 0xFFFFFFFF t.interleave) (number_of_digits 10 0xFFFFFFFF t.channel)

-- what a track says, once it has ended
abbrev pub track_says : TrackTexts → List Said
track_says t = text_said (Track (track_index t)) t.name ++ text_said (Function (track_index t)) t.function
    ++ text_said (Channel (track_index t)) t.channel

-- what the element at this path says of the recording
abbrev pub recording_says : List ℕ → List ℕ → List Said
recording_says path text =
    if bytes_eq path (codes "/BWFXML/PROJECT") then text_said Project text
    else if bytes_eq path (codes "/BWFXML/SCENE") then text_said Scene text
    else if bytes_eq path (codes "/BWFXML/TAKE") then text_said Take text
    else if bytes_eq path (codes "/BWFXML/TAPE") then text_said Tape text
    else if bytes_eq path (codes "/BWFXML/NOTE") then text_said IxmlNote text
    else []

-- the track with what the element at this path says of it
abbrev pub track_with : List ℕ → List ℕ → TrackTexts → TrackTexts
track_with path text t =
    if bytes_eq path (codes "/BWFXML/TRACK_LIST/TRACK/CHANNEL_INDEX") then record t { channel = text }
    else if bytes_eq path (codes "/BWFXML/TRACK_LIST/TRACK/INTERLEAVE_INDEX")
    then record t { interleave = text }
    else if bytes_eq path (codes "/BWFXML/TRACK_LIST/TRACK/NAME") then record t { name = text }
    else if bytes_eq path (codes "/BWFXML/TRACK_LIST/TRACK/FUNCTION") then record t { function = text }
    else t

-- what has been said so far: the track that goes on, and before it
pub record IxmlTexts : Type 0 where
  pub track : TrackTexts
  pub said : List Said

-- .. with the text of the element at this path, which ends
abbrev pub with_element : List ℕ → List ℕ → IxmlTexts → IxmlTexts
with_element path text s =
    if bytes_eq path (codes "/BWFXML/TRACK_LIST/TRACK")
    then record { track = no_track; said = s.said ++ track_says s.track }
    else record { track = track_with path text s.track; said = s.said ++ recording_says path text }
