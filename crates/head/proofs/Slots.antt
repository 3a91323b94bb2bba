-- The slots of the known fields.
use Rattle.std.proofs.Common.{◌≡◌, ℕ, ◌⊎◌, Some, refl, ap, ◌∙◌, inl, inr, arith}
use Rattle.head.specs.declared.fields.Name.{Name}
use Rattle.head.specs.declared.fields.Name.TheVariants.{ContentLength, PacketType, SessionId, ContentRange, ContentEncoding, SupportedProtocols}
use Rattle.head.specs.Heads.{Found, Table, slot_of, with_slot, again}

-- a slot that was filled, and the others
pub slot-with : (t : Table) (f : Found) (m n : Name) → ((m ≡ n) × (slot_of (with_slot t m f) n ≡ Some f)) ⊎ ((m ≡ n → ⊥) × (slot_of (with_slot t m f) n ≡ slot_of t n))
slot-with t f ContentLength ContentLength = inl (refl, refl)
slot-with t f ContentLength PacketType = inr (λ h. let w : ◌≡◌ {A = ℕ} 0 1 = cc h in omega arith, refl)
slot-with t f ContentLength SessionId = inr (λ h. let w : ◌≡◌ {A = ℕ} 0 1 = cc h in omega arith, refl)
slot-with t f ContentLength ContentRange = inr (λ h. let w : ◌≡◌ {A = ℕ} 0 1 = cc h in omega arith, refl)
slot-with t f ContentLength ContentEncoding = inr (λ h. let w : ◌≡◌ {A = ℕ} 0 1 = cc h in omega arith, refl)
slot-with t f ContentLength SupportedProtocols = inr (λ h. let w : ◌≡◌ {A = ℕ} 0 1 = cc h in omega arith, refl)
slot-with t f PacketType ContentLength = inr (λ h. let w : ◌≡◌ {A = ℕ} 0 1 = cc h in omega arith, refl)
slot-with t f PacketType PacketType = inl (refl, refl)
slot-with t f PacketType SessionId = inr (λ h. let w : ◌≡◌ {A = ℕ} 0 1 = cc h in omega arith, refl)
slot-with t f PacketType ContentRange = inr (λ h. let w : ◌≡◌ {A = ℕ} 0 1 = cc h in omega arith, refl)
slot-with t f PacketType ContentEncoding = inr (λ h. let w : ◌≡◌ {A = ℕ} 0 1 = cc h in omega arith, refl)
slot-with t f PacketType SupportedProtocols = inr (λ h. let w : ◌≡◌ {A = ℕ} 0 1 = cc h in omega arith, refl)
slot-with t f SessionId ContentLength = inr (λ h. let w : ◌≡◌ {A = ℕ} 0 1 = cc h in omega arith, refl)
slot-with t f SessionId PacketType = inr (λ h. let w : ◌≡◌ {A = ℕ} 0 1 = cc h in omega arith, refl)
slot-with t f SessionId SessionId = inl (refl, refl)
slot-with t f SessionId ContentRange = inr (λ h. let w : ◌≡◌ {A = ℕ} 0 1 = cc h in omega arith, refl)
slot-with t f SessionId ContentEncoding = inr (λ h. let w : ◌≡◌ {A = ℕ} 0 1 = cc h in omega arith, refl)
slot-with t f SessionId SupportedProtocols = inr (λ h. let w : ◌≡◌ {A = ℕ} 0 1 = cc h in omega arith, refl)
slot-with t f ContentRange ContentLength = inr (λ h. let w : ◌≡◌ {A = ℕ} 0 1 = cc h in omega arith, refl)
slot-with t f ContentRange PacketType = inr (λ h. let w : ◌≡◌ {A = ℕ} 0 1 = cc h in omega arith, refl)
slot-with t f ContentRange SessionId = inr (λ h. let w : ◌≡◌ {A = ℕ} 0 1 = cc h in omega arith, refl)
slot-with t f ContentRange ContentRange = inl (refl, refl)
slot-with t f ContentRange ContentEncoding = inr (λ h. let w : ◌≡◌ {A = ℕ} 0 1 = cc h in omega arith, refl)
slot-with t f ContentRange SupportedProtocols = inr (λ h. let w : ◌≡◌ {A = ℕ} 0 1 = cc h in omega arith, refl)
slot-with t f ContentEncoding ContentLength = inr (λ h. let w : ◌≡◌ {A = ℕ} 0 1 = cc h in omega arith, refl)
slot-with t f ContentEncoding PacketType = inr (λ h. let w : ◌≡◌ {A = ℕ} 0 1 = cc h in omega arith, refl)
slot-with t f ContentEncoding SessionId = inr (λ h. let w : ◌≡◌ {A = ℕ} 0 1 = cc h in omega arith, refl)
slot-with t f ContentEncoding ContentRange = inr (λ h. let w : ◌≡◌ {A = ℕ} 0 1 = cc h in omega arith, refl)
slot-with t f ContentEncoding ContentEncoding = inl (refl, refl)
slot-with t f ContentEncoding SupportedProtocols = inr (λ h. let w : ◌≡◌ {A = ℕ} 0 1 = cc h in omega arith, refl)
slot-with t f SupportedProtocols ContentLength = inr (λ h. let w : ◌≡◌ {A = ℕ} 0 1 = cc h in omega arith, refl)
slot-with t f SupportedProtocols PacketType = inr (λ h. let w : ◌≡◌ {A = ℕ} 0 1 = cc h in omega arith, refl)
slot-with t f SupportedProtocols SessionId = inr (λ h. let w : ◌≡◌ {A = ℕ} 0 1 = cc h in omega arith, refl)
slot-with t f SupportedProtocols ContentRange = inr (λ h. let w : ◌≡◌ {A = ℕ} 0 1 = cc h in omega arith, refl)
slot-with t f SupportedProtocols ContentEncoding = inr (λ h. let w : ◌≡◌ {A = ℕ} 0 1 = cc h in omega arith, refl)
slot-with t f SupportedProtocols SupportedProtocols = inl (refl, refl)

pub with-repeated : (t : Table) (f : Found) (m : Name) → (with_slot t m f).repeated ≡ t.repeated
with-repeated t f ContentLength = refl
with-repeated t f PacketType = refl
with-repeated t f SessionId = refl
with-repeated t f ContentRange = refl
with-repeated t f ContentEncoding = refl
with-repeated t f SupportedProtocols = refl

pub table_same : (t u : Table) → ((n : Name) → slot_of t n ≡ slot_of u n) → t.repeated ≡ u.repeated → t ≡ u
table_same t u same again =
    ap (λ x. record { content_length = x; packet_type = t.packet_type; session_id = t.session_id; content_range = t.content_range; content_encoding = t.content_encoding; supported_protocols = t.supported_protocols; repeated = t.repeated }) (same ContentLength)
    ∙ ap (λ x. record { content_length = u.content_length; packet_type = x; session_id = t.session_id; content_range = t.content_range; content_encoding = t.content_encoding; supported_protocols = t.supported_protocols; repeated = t.repeated }) (same PacketType)
    ∙ ap (λ x. record { content_length = u.content_length; packet_type = u.packet_type; session_id = x; content_range = t.content_range; content_encoding = t.content_encoding; supported_protocols = t.supported_protocols; repeated = t.repeated }) (same SessionId)
    ∙ ap (λ x. record { content_length = u.content_length; packet_type = u.packet_type; session_id = u.session_id; content_range = x; content_encoding = t.content_encoding; supported_protocols = t.supported_protocols; repeated = t.repeated }) (same ContentRange)
    ∙ ap (λ x. record { content_length = u.content_length; packet_type = u.packet_type; session_id = u.session_id; content_range = u.content_range; content_encoding = x; supported_protocols = t.supported_protocols; repeated = t.repeated }) (same ContentEncoding)
    ∙ ap (λ x. record { content_length = u.content_length; packet_type = u.packet_type; session_id = u.session_id; content_range = u.content_range; content_encoding = u.content_encoding; supported_protocols = x; repeated = t.repeated }) (same SupportedProtocols)
    ∙ ap (λ x. record { content_length = u.content_length; packet_type = u.packet_type; session_id = u.session_id; content_range = u.content_range; content_encoding = u.content_encoding; supported_protocols = u.supported_protocols; repeated = x }) again

pub again-slot : (t : Table) (at : ℕ) (n : Name) → slot_of (again t at) n ≡ slot_of t n
again-slot t at ContentLength = refl
again-slot t at PacketType = refl
again-slot t at SessionId = refl
again-slot t at ContentRange = refl
again-slot t at ContentEncoding = refl
again-slot t at SupportedProtocols = refl
