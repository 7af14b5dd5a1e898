-- Tenants of one allocator, each with a limit in bytes.
use Rattle.bb_memory_traits.specs.Chunk.{Chunk}
use Rattle.bb_memory_traits.specs.declared.layout.Layout.{Layout}
use Rattle.layers.specs.Slabs.{Answers}
use Rattle.layers.specs.declared.tenants.AdmitError.{AdmitError}
use Rattle.layers.specs.declared.tenants.AdmitError.TheVariants as admit
use Rattle.layers.specs.declared.tenants.Lease.{Lease}
use Rattle.layers.specs.declared.tenants.LeaseError.{LeaseError}
use Rattle.layers.specs.declared.tenants.LeaseError.TheVariants as lease
use Rattle.std.specs.Prelude.{Err, List, Ok, Option, if◌then◌else◌, length, map, nat_eq, position, remove, slice_index_or, sum, sum_by, ℕ, ◌&&◌, ◌+◌, ◌<◌, ◌==◌, ◌≤◌}

-- the value of tenants: the allocator below, the whole, which is the most bytes that all limits
-- together may have, the limit of each tenant by its number, and the leases, in the order in which
-- they were given
pub record Tenancy (A : Type 0) : Type 0 where
  pub allocator : A
  pub whole : ℕ
  pub limits : List ℕ
  pub leases : List Lease

-- the chunks of these leases, in order
abbrev pub chunks_of : List Lease → List Chunk
chunks_of leases = map (λ lease. lease.chunk) leases

-- how many bytes the chunks of these leases have together
abbrev pub bytes_out : List Lease → ℕ
bytes_out leases = sum_by (λ lease. lease.chunk.len) leases

-- how many of a lease's bytes are a tenant's: all or none
abbrev pub bytes_for : ℕ → Lease → ℕ
bytes_for tenant lease = if lease.tenant == tenant then lease.chunk.len else 0

-- how many bytes a tenant's chunks have together
abbrev pub used_by : ℕ → List Lease → ℕ
used_by tenant leases = sum_by (bytes_for tenant) leases

-- a tenant's limit, or 0 for a number that isn't a tenant's
abbrev pub limit_of : List ℕ → ℕ → ℕ
limit_of limits tenant = slice_index_or limits tenant 0

-- the position of the tenant's lease of the chunk at a place
abbrev pub lease_at : ℕ → ℕ → List Lease → Option ℕ
lease_at tenant place leases = position (λ lease. nat_eq lease.tenant tenant && nat_eq lease.chunk.place place) leases

-- the tenancy without the lease at this position, and with the allocator that took the chunk back
abbrev pub without_lease : {A : Type 0} → Tenancy A → A → ℕ → Tenancy A
without_lease old allocator position = record old { allocator = allocator; leases = remove old.leases position }

-- the reason why a tenant with this limit wasn't admitted
abbrev pub AdmitFails : {A : Type 0} → Tenancy A → ℕ → AdmitError → Type 0
AdmitFails old limit admit.OverWhole = old.whole < sum old.limits + limit
-- memory for the limits ran out, which nothing here predicts
AdmitFails old limit (admit.List error) = sum old.limits + limit ≤ old.whole

-- a tenant has this number, and this many bytes are left of its limit
pub record HasLeft {A : Type 0} (old : Tenancy A) (tenant size : ℕ) : Type 0 where
  pub known : tenant < length old.limits
  pub within : used_by tenant old.leases + size ≤ limit_of old.limits tenant

-- the reason why a tenant got no chunk; `may_answer` says which answers the allocator may give
abbrev pub LeaseFails : {A : Type 0} → Answers → Tenancy A → ℕ → Layout → LeaseError → Type 0
LeaseFails may_answer old tenant layout lease.NoTenant = length old.limits ≤ tenant
LeaseFails may_answer old tenant layout lease.OverLimit =
    (tenant < length old.limits) × (limit_of old.limits tenant < used_by tenant old.leases + layout.size)
-- memory for the list ran out, which nothing here predicts
LeaseFails may_answer old tenant layout (lease.List error) = HasLeft old tenant layout.size
LeaseFails may_answer old tenant layout (lease.Refused error) = HasLeft old tenant layout.size × may_answer layout (Err error)
LeaseFails may_answer old tenant layout lease.TooLong =
    HasLeft old tenant layout.size × ((chunk : Chunk) × may_answer layout (Ok chunk)
    × (limit_of old.limits tenant < used_by tenant old.leases + chunk.len))

-- the refusal is the layer's own: the allocator gets no request
abbrev pub IsRefusedUnasked : LeaseError → Type 0
IsRefusedUnasked lease.NoTenant = Unit {0}
IsRefusedUnasked lease.OverLimit = Unit {0}
IsRefusedUnasked (lease.List error) = Unit {0}
IsRefusedUnasked _ = ⊥
